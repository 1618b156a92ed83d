use Rattle.std.proofs.Common.{◌≡◌, All, fold, length, take}
use Rattle.std.specs.Arc.{arc_value}
use Rattle.schedules.specs.Schedules.{after, covered_sets}
use Rattle.schedules.proofs.event.apply_all.Given as goal

abbrev pub invariant-loop-event : goal.invariant-loop-event
invariant-loop-event g l = record {
  own : All (λ v. v.inputs ≡ arc_value l.inputs) l.gatherings.items;
  steps : covered_sets l.gatherings.items
      ≡ fold (after (length (arc_value l.inputs))) (covered_sets l.initial.gatherings.items) (take l.event-index l.events);
}
