use Rattle.std.proofs.Common.{◌≡◌, List, ℕ, length}
use Rattle.cutting.specs.Feeding.{HasFed, fed_length}
use Rattle.cutting.proofs.cutter.Cutter.cut_off.Given as goal

-- what was fed stays, and no byte is lost
abbrev pub invariant-loop-end : goal.invariant-loop-end
invariant-loop-end l = record {
  fed : (fed : List ℕ) → HasFed l.initial.self fed → HasFed l.self fed;
  target : l.self.target ≡ l.initial.self.target;
  length_is : fed_length l.self ≡ fed_length l.initial.self;
}

abbrev pub decreases-loop-end : goal.decreases-loop-end
decreases-loop-end l = length l.self.rest
