-- What follows of the promise of a run: it leaves one answer, and leaves the sink alone.
use Rattle.std.proofs.Common.{◌≡◌, ℕ, List, Result, Err, false, subst, sym}
use Rattle.std.proofs.lemmas.Bool.{false≢true}
use Rattle.outcomes.specs.declared.day_fault.DayFault.{DayFault}
use Rattle.outcomes.specs.declared.run_fault.RunFault.{RunFault}
use Rattle.outcomes.specs.declared.run_fault.RunFault.TheVariants as fault
use Rattle.query.specs.Words.{words_of}
use Rattle.query.proofs.MeaningOrFault.{one_meaning}
use Rattle.answers.specs.Answers.{IsAnswer}
use Rattle.answers.proofs.AnswerLaws.{answers_are_one}
use Rattle.sinks.specs.declared.sink.Sink.{Ghosts as SinkOf}
use Rattle.day_file.specs.Sources.{Reading}
use Rattle.runs.specs.Runs.{Answers, Ran, is_write_failed}

-- a reading that allows one list of bytes leaves one answer
pub answers_of_one_day : (reading : Reading) → ((day more : List ℕ) → reading.all day → reading.all more → day ≡ more)
    → (words : List ℕ) (one other : Result (List ℕ) DayFault) → Answers reading words one → Answers reading words other → one ≡ other
answers_of_one_day reading once words one other (query, means, (day, read, may, is)) (query', means', (day', read', may', is')) =
    answers_are_one day query one other is
    (subst (λ d. IsAnswer d query other) (once day' day read' read)
    (subst (λ q. IsAnswer day' q other) (one_meaning (words_of words) query' query means' means) is'))

-- a run that is refused, but not by its sink, leaves the sink as it was
pub left_alone : {K : Type 0} (reading : Reading) (sink : SinkOf K) (words : List ℕ) (limit : ℕ) (was is : K) (f : RunFault)
    → is_write_failed {T = Unit {0}} (Err f) ≡ false → Ran reading sink words limit was is (Err f) → is ≡ was
left_alone reading sink words limit was is (fault.Query f) other ran = ran.2
left_alone reading sink words limit was is fault.ReadFailed other ran = ran.2
left_alone reading sink words limit was is (fault.TooLong most) other ran = ran.3
left_alone reading sink words limit was is fault.TooManyMorsels other ran = ran.2
left_alone reading sink words limit was is (fault.Day f) other ran = ran.1
left_alone reading sink words limit was is (fault.WriteFailed written) other ran = absurd (false≢true (sym other))
left_alone reading sink words limit was is fault.OutOfMemory other ran = ran.2
