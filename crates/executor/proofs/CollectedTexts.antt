-- A text that was handed over to a sink that keeps it is the answer's.
use Rattle.std.proofs.Common.{◌≡◌, ℕ, List, [], ◌++◌, Result, Ok, Err, sym, ap, ◌∙◌}
use Rattle.outcomes.specs.declared.day_fault.DayFault.{DayFault}
use Rattle.outcomes.specs.declared.run_fault.RunFault.{RunFault}
use Rattle.outcomes.specs.declared.run_fault.RunFault.TheVariants as fault
use Rattle.sinks.specs.declared.sink.Sink.{Ghosts as SinkOf}
use Rattle.runs.specs.Made.{IsHandedOrRefused}
use Rattle.executor.specs.Collected.{IsCollected}

-- what a sink has collected is the answer that was handed over
pub collected_is : {K : Type 0} (sink : SinkOf K) (bytes_of : K → List ℕ) → ((a b : K) (xs : List ℕ) → sink.Took a b xs → bytes_of b ≡ bytes_of a ++ xs)
    → (before after : K) (handed : Result (Unit {0}) RunFault) (told answer : Result (List ℕ) DayFault) → bytes_of before ≡ []
    → IsHandedOrRefused sink (λ r. told ≡ r) before after handed → IsCollected handed (bytes_of after) answer → answer ≡ told
collected_is sink bytes_of takes before after (Ok done) told answer none (text, is, took, flushed) kept =
    kept ∙ ap Ok (takes before after text took ∙ ap (λ b. b ++ text) none) ∙ sym is
collected_is sink bytes_of takes before after (Err (fault.Day f)) told answer none handed kept = kept ∙ sym handed.0
collected_is sink bytes_of takes before after (Err (fault.WriteFailed written)) told answer none handed kept = absurd kept
collected_is sink bytes_of takes before after (Err (fault.Query f)) told answer none handed kept = absurd kept
collected_is sink bytes_of takes before after (Err fault.ReadFailed) told answer none handed kept = absurd kept
collected_is sink bytes_of takes before after (Err (fault.TooLong most)) told answer none handed kept = absurd kept
collected_is sink bytes_of takes before after (Err fault.TooManyMorsels) told answer none handed kept = absurd kept
collected_is sink bytes_of takes before after (Err fault.OutOfMemory) told answer none handed kept = absurd kept
