use Rattle.std.proofs.Common.{◌≡◌, ℕ}
use Rattle.morsel_rows.specs.TakenPartitions.{rows_taken_at}
use Rattle.morsel_rows.proofs.room.shrink_all.Given as goal

abbrev pub invariant-loop-taken : goal.invariant-loop-taken
invariant-loop-taken g l = (number : ℕ) → rows_taken_at l.partitions number ≡ rows_taken_at l.initial.partitions number
