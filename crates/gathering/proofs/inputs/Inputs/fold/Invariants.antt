use Rattle.std.proofs.Common.{◌≡◌, ◌-◌, length}
use Rattle.gathering.specs.Kept.{IsFolded, covered_tasks}
use Rattle.gathering.proofs.inputs.Inputs.fold.Given as goal

-- the pieces so far are folded, and what is covered stays
abbrev pub invariant-loop-folded : goal.invariant-loop-folded
invariant-loop-folded g l = record {
  folded : IsFolded g.W.Input.PartialEq.eq g.W.Work.IsTotalOf l.self l.folded l.total l.places.items;
  covered : covered_tasks l.folded l.places.items ≡ covered_tasks l.fn.folded l.fn.places.items;
}

abbrev pub decreases-loop-folded : goal.decreases-loop-folded
decreases-loop-folded g l = length l.self - l.folded
