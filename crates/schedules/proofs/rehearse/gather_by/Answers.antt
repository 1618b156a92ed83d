use Rattle.std.proofs.Common.{arith, length}
use Rattle.std.specs.Arc.{arc_value}
use Rattle.schedules.proofs.Schedules.{as_many, gathered}
use Rattle.schedules.proofs.rehearse.gather_by.Goals as goal

pub remove-first-requires : goal.remove-first-requires
remove-first-requires g c = let all = c.apply_all.new.gatherings in
    let many = as_many all.items c.args.gatherers (length (arc_value c.args.inputs.now)) c.args.events.now
    (rw c.in_ok-gatherings.ensures.empty at c.in_ok-apply_all.ensures.steps) in omega (arith, c.requires, all.ok.0)

pub returns-clause-arrived : goal.returns-clause-arrived
returns-clause-arrived g c = λ task. rw (c.unite_all.ensures.covered task, c.remove-first.ensures.items)
    (gathered c.apply_all.new.gatherings.items c.args.gatherers (length (arc_value c.args.inputs.now)) c.args.events.now
    (rw c.in_ok-gatherings.ensures.empty at c.in_ok-apply_all.ensures.steps) c.remove-first.result task c.requires c.remove-first.ensures.value)
