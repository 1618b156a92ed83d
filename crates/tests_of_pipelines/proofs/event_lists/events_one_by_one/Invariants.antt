use Rattle.std.specs.Arc.{arc_value}
use Rattle.schedules.specs.Schedules.{AreOver}
use Rattle.tests_of_pipelines.proofs.event_lists.events_one_by_one.Given as goal

abbrev pub invariant-loop-event : goal.invariant-loop-event
invariant-loop-event g l = AreOver (arc_value l.inputs) l.gatherings.items
