-- What a sink that keeps a text has collected.
-- Derived: no public clause cites it.
use Rattle.std.specs.Prelude.{◌≡◌, ℕ, List, Result, Ok, Err}
use Rattle.answers.specs.Answers.{DayFault}
use Rattle.outcomes.specs.declared.run_fault.RunFault.{RunFault}
use Rattle.outcomes.specs.declared.run_fault.RunFault.TheVariants as fault

-- this was handed over to a sink that had taken nothing, and has these bytes now
abbrev pub IsCollected : Result (Unit {0}) RunFault → List ℕ → Result (List ℕ) DayFault → Type 0
IsCollected (Ok done) bytes answer = answer ≡ Ok bytes
IsCollected (Err (fault.Day f)) bytes answer = answer ≡ Err f
IsCollected (Err _) bytes answer = ⊥
