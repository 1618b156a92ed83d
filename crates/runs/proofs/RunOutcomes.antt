-- The promise of a run is kept once an answer is handed over.
use Rattle.std.proofs.Common.{◌≡◌, ℕ, List, Result, Ok, Err, inr, subst}
use Rattle.outcomes.specs.declared.day_fault.DayFault.{DayFault}
use Rattle.outcomes.specs.declared.run_fault.RunFault.{RunFault}
use Rattle.outcomes.specs.declared.run_fault.RunFault.TheVariants as fault
use Rattle.meaning.specs.Meaning.{Meaning}
use Rattle.query.specs.Grammar.{Means}
use Rattle.query.specs.Words.{words_of}
use Rattle.sinks.specs.declared.sink.Sink.{Ghosts as SinkOf}
use Rattle.day_file.specs.Sources.{Reading}
use Rattle.runs.specs.Runs.{Answers, IsAnswered, Ran}
use Rattle.runs.specs.Made.{IsHandedOrRefused}

-- an answer over all that was read, once it is handed over, is what a run of its query promises
module _ (reading : Reading) {query : Meaning} (words : List ℕ) {answer : Result (List ℕ) DayFault} (means : Means (words_of words) query)
    (answered : IsAnswered reading query answer) where
  told : {r : Result (List ℕ) DayFault} → answer ≡ r → Answers reading words r
  told is = (query, means, subst (IsAnswered reading query) is answered)

  pub ran : {K : Type 0} (sink : SinkOf K) (limit : ℕ) (before after : K) (outcome : Result (Unit {0}) RunFault) → reading.some
      → IsHandedOrRefused sink (λ r. answer ≡ r) before after outcome → Ran reading sink words limit before after outcome
  ran sink limit before after (Ok done) some (text, is, took, flushed) = (text, told is, took, flushed)
  ran sink limit before after (Err (fault.Day f)) some w = (told w.0, w.1)
  ran sink limit before after (Err (fault.WriteFailed written)) some (text, is, within, took) = (text, told is, within, took)
  ran sink limit before after (Err (fault.Query f)) some w = absurd w
  ran sink limit before after (Err fault.ReadFailed) some w = absurd w
  ran sink limit before after (Err (fault.TooLong most)) some w = absurd w
  ran sink limit before after (Err fault.TooManyMorsels) some w = absurd w
  ran sink limit before after (Err fault.OutOfMemory) some w = (inr (query, means), some, w)
