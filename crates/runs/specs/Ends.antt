-- What every run reports of its query, and of a source that gives no rows.
-- To be believed of a crate used by itself: what is promised of a run is `Ran`.
use Rattle.std.specs.Prelude.{◌≡◌, ℕ, List, Some, Result, Ok, Err, true}
use Rattle.outcomes.specs.declared.run_fault.RunFault.{RunFault}
use Rattle.outcomes.specs.declared.run_fault.RunFault.TheVariants as fault
use Rattle.day_file.specs.declared.source_fault.SourceFault.{SourceFault}
use Rattle.day_file.specs.declared.source_fault.SourceFault.TheVariants as source
use Rattle.query.specs.Faults.{first_query_fault}
use Rattle.query.specs.Words.{lists_symbols, words_of}
use Rattle.answers.specs.Answers.{DayFault, Truncated}

-- what a refusal says of the words that should be a query
abbrev pub IsQueryRefusal : List ℕ → RunFault → Type 0
IsQueryRefusal words (fault.Query f) = first_query_fault (words_of words) ≡ Some f
IsQueryRefusal words fault.OutOfMemory = lists_symbols (words_of words) ≡ true
IsQueryRefusal words _ = ⊥

-- what a run with this limit reports of a source's fault: the place where it is truncated, or a refusal
abbrev pub reported : ℕ → SourceFault → Result (Result (List ℕ) DayFault) RunFault
reported limit source.ReadFailed = Err fault.ReadFailed
reported limit source.TooLong = Err (fault.TooLong limit)
reported limit (source.Truncated place) = Ok (Err (Truncated place))
reported limit source.TooManyMorsels = Err fault.TooManyMorsels
reported limit source.OutOfMemory = Err fault.OutOfMemory
