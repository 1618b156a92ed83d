use Rattle.std.proofs.Common.{List, ℕ, ◌+◌, ◌-◌, ◌≤◌, drop, length}
use Rattle.base.specs.declared.limits.TheConstants.{MOST_MORSELS}
use Rattle.cutting.specs.Cutting.{IsCutBy}
use Rattle.cutting.proofs.CutsBy.{Begun}
use Rattle.cutting.proofs.cutting.make_cut.Given as goal

-- the runs that are made, and those that are left
abbrev pub invariant-loop-start : goal.invariant-loop-start
invariant-loop-start l = Begun l.target l.start l.cut l.bytes × (left : List (List ℕ)) × IsCutBy l.target left (drop l.start l.bytes)
    × (length l.cut + length left ≤ MOST_MORSELS)

abbrev pub decreases-loop-start : goal.decreases-loop-start
decreases-loop-start l = length l.bytes - l.start
