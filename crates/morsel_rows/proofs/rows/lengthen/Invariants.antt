use Rattle.std.proofs.Common.{◌≡◌, ℕ, ◌+◌, ◌≤◌, vec_len}
use Rattle.morsel_rows.specs.TakenPartitions.{rows_taken_at}
use Rattle.morsel_rows.proofs.rows.lengthen.Given as goal

abbrev pub invariant-loop : goal.invariant-loop
invariant-loop g l = record {
  same : (number : ℕ) → rows_taken_at l.partitions.items number ≡ rows_taken_at l.fn.partitions.items number;
  long : l.counter + vec_len l.fn.partitions ≤ vec_len l.partitions;
}
