use Rattle.std.proofs.Common.{Err, ap}
use Rattle.runs.proofs.Answered.{finished, stopped}
use Rattle.runs.specs.Made.{told}
use Rattle.runs.proofs.calls.made.made_of.Goals as goal

pub made_of_total-requires : goal.made_of_total-requires
made_of_total-requires c =
    let (runs, outcome) = c.requires.outcome in
    let (messages, of, answers) = finished (rw c.in-Finished.is at outcome) in
    record { gathered = (messages, of) }

pub returns-in-Finished-clause-answers : goal.returns-in-Finished-clause-answers
returns-in-Finished-clause-answers c = λ runs outcome.
    let (messages, of, answers) = finished (rw c.in-Finished.is at outcome) in
    answers (told c.made_of_total.result) (c.made_of_total.ensures.answers messages of)

pub returns-in-Stopped-clause-answers : goal.returns-in-Stopped-clause-answers
returns-in-Stopped-clause-answers c = λ runs outcome. stopped (rw c.in-Stopped.is at outcome) _ (ap Err c.fault_of_length.ensures)
