use Rattle.std.proofs.Common.{arith}
use Rattle.std.proofs.lemmas.Bool.Decides.{nat_tests}
use Rattle.schedules.proofs.Schedules.{none_left}
use Rattle.schedules.proofs.rehearse.rehearse_pipeline.Goals as goal

pub returns-in-Ok-clause-answer : goal.returns-in-Ok-clause-answer
returns-in-Ok-clause-answer g c = let known = c.in_ok-gathering.ensures in let complete = rw known.inputs at c.in-Ok.ensures.complete in (
  none_left c.args.gatherers _ c.args.events.now (λ task below. let all = complete task below in let arrived = known.arrived task in grind (arith, nat_tests)),
  rw known.inputs at c.in-Ok.ensures.total,
)
