use Rattle.std.proofs.Common.{◌≡◌, ℕ}
use Rattle.morsel_rows.specs.Partitions.{no_rows_in}
use Rattle.morsel_rows.specs.TakenPartitions.{rows_taken_at}
use Rattle.morsel_rows.proofs.room.without_room.Given as goal

abbrev pub invariant-loop : goal.invariant-loop
invariant-loop g l = (number : ℕ) → rows_taken_at l.partitions.items number ≡ no_rows_in
