use Rattle.std.proofs.Common.{◌≡◌, drop}
use Rattle.std.specs.Cmp.Lexicographic.{pointwise}
use Rattle.morsel_rows.specs.SameRows.{is_same_partition}
use Rattle.buckets.specs.BucketRows.{rows_at}
use Rattle.buckets.proofs.partition_rows.same_rows.Given as goal

-- all hangs on the morsels that are left
abbrev pub invariant-loop-i : goal.invariant-loop-i
invariant-loop-i l =
    pointwise is_same_partition (rows_at l.number l.one) (rows_at l.number l.other)
    ≡ pointwise is_same_partition (rows_at l.number (drop l.i l.one)) (rows_at l.number (drop l.i l.other))
