use Rattle.std.proofs.Common.{◌≡◌, ◌≤◌, ◌-◌, ℕ, List, length}
use Rattle.cutting.proofs.CutsBy.{Begun}
use Rattle.cutting.proofs.runs.count_runs.Given as goal

abbrev pub invariant-loop-start : goal.invariant-loop-start
invariant-loop-start l =
    (front : List (List ℕ)) × Begun l.target l.start front l.bytes × (length front ≡ l.count) × (l.count ≤ l.start)

abbrev pub decreases-loop-start : goal.decreases-loop-start
decreases-loop-start l = length l.bytes - l.start
