use Rattle.std.proofs.Common.{◌≡◌, ◌==◌, Result, Ok, Err, ◌∙◌, ap, refl, rules, sym}
use Rattle.arguments.specs.FaultLines.{status_of}
use Rattle.arguments.specs.Reports.{status_of_outcome}
use Rattle.runs.specs.Runs.{is_read_failed}
use Rattle.outcomes.specs.declared.run_fault.RunFault.{RunFault}
use Rattle.outcomes.specs.declared.run_fault.RunFault.TheVariants as fault
use Rattle.command_line.proofs.performing.perform.Goals as goal

-- the status of a failed reading is no other outcome's
read_failed_status : (outcome : Result (Unit {0}) RunFault) → is_read_failed outcome ≡ (status_of_outcome outcome == status_of fault.ReadFailed)
read_failed_status (Ok done) = refl
read_failed_status (Err (fault.Query f)) = refl
read_failed_status (Err fault.ReadFailed) = refl
read_failed_status (Err (fault.TooLong limit)) = refl
read_failed_status (Err fault.TooManyMorsels) = refl
read_failed_status (Err (fault.Day f)) = refl
read_failed_status (Err (fault.WriteFailed written)) = refl
read_failed_status (Err fault.OutOfMemory) = refl

pub returns-clause-did : goal.returns-clause-did
returns-clause-did g c =
    (c.run-outcome.result, search rules, c.run-outcome.ensures.write_failed, c.report.ensures.status, c.report.ensures.reported)

pub returns-clause-read_failed : goal.returns-clause-read_failed
returns-clause-read_failed g c =
    c.run-outcome.ensures.read_failed ∙ (read_failed_status c.run-outcome.result ∙ ap (λ s. s == 4) (sym c.report.ensures.status))
