use Rattle.std.proofs.Common.{◌≡◌, take}
use Rattle.morsel_rows.specs.Partitions.{joined_partitions}
use Rattle.buckets.specs.BucketRows.{rows_at, rows_of_partitions}
use Rattle.buckets.proofs.partition_rows.filled_partitions.Given as goal

-- the rows of the morsels so far
abbrev pub invariant-loop-morsel : goal.invariant-loop-morsel
invariant-loop-morsel l = rows_of_partitions l.partitions.items ≡ joined_partitions (rows_at l.number (take l.morsel-index l.morsels))
