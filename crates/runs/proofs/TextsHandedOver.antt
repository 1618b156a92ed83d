-- A text that is written as it is made: under the names that a directory gives, and handed over.
use Rattle.std.proofs.Common.{◌≡◌, ℕ, List, Result, Ok, Err, sym}
use Rattle.std.specs.Result.{IfOk, OnErr, OnOk}
use Rattle.std.specs.declared.alloc.AllocError.{AllocError}
use Rattle.outcomes.specs.declared.day_fault.DayFault.{DayFault}
use Rattle.outcomes.specs.declared.run_fault.RunFault.{RunFault}
use Rattle.row_types.specs.declared.directory.DirectoryRow.{DirectoryRow}
use Rattle.time_and_sales.specs.Names.{IsNamesOf, name_of, name_text, names_by}
use Rattle.time_and_sales.specs.declared.names.Names.{Names}
use Rattle.meaning.specs.declared.query.What.{What}
use Rattle.planning.specs.AllBuckets.{Product, text_of_products}
use Rattle.sinks.specs.Written.{IsWritten}
use Rattle.sinks.specs.declared.delivering.WriteFailed.{WriteFailed}
use Rattle.sinks.specs.declared.sink.Sink.{Ghosts as SinkOf}
use Rattle.runs.specs.Made.{IsHandedOrRefused}
use Rattle.runs.specs.Steps.{outcome_of}

-- the text under the names of some rows is that under the names which they give
pub text_told : {A : Type 0} (what : What) (rows : List DirectoryRow) (names : Names A) (products listed : List Product) → IsNamesOf rows names
    → listed ≡ products → text_of_products what (name_of rows) products ≡ text_of_products what (names_by names) listed
text_told what rows names products listed named same = sym (λ i. text_of_products what (λ locate. name_text locate (named locate i)) (same i))

-- what comes of a text that is written or refused
pub handed_text : {K : Type 0} (sink : SinkOf K) (before after : K) (put : Result (Result (Unit {0}) WriteFailed) AllocError) (text : List ℕ)
    {told : Result (List ℕ) DayFault} {outcome : Result (Unit {0}) RunFault} → told ≡ Ok text → outcome ≡ outcome_of put
    → IfOk put (IsWritten sink before after text) → IfOk put (λ written. OnOk written (sink.HasFlushed after)) → OnErr put (after ≡ before)
    → IsHandedOrRefused sink (λ answer. told ≡ answer) before after outcome
handed_text sink before after (Ok (Ok done)) text told is written flushed refused = rw is (text, told, written.0, flushed)
handed_text sink before after (Ok (Err failed)) text told is written flushed refused = rw is (text, told, written.0, written.1)
handed_text sink before after (Err none) text told is written flushed refused = rw is refused
