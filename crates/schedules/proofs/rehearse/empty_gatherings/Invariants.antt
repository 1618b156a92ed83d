use Rattle.std.proofs.Common.{◌≡◌, All, replicate}
use Rattle.std.specs.Arc.{arc_value}
use Rattle.std.specs.FinSet.{empty}
use Rattle.schedules.specs.Schedules.{covered_sets}
use Rattle.schedules.proofs.rehearse.empty_gatherings.Given as goal

abbrev pub invariant-loop : goal.invariant-loop
invariant-loop g l = record {
  inputs : All (λ v. v.inputs ≡ arc_value l.inputs) l.all.items;
  empty : covered_sets l.all.items ≡ replicate l.counter empty;
}
