use Rattle.std.proofs.Common.{◌≡◌, List, option_map, take}
use Rattle.row_types.specs.declared.order.OrderRow.{OrderRow}
use Rattle.probe.specs.Pricing.{first_unknown, priced, unknown_of}
use Rattle.buckets.specs.BucketRows.{rows_of_partitions}
use Rattle.buckets.specs.FoundRows.{kept_of}
use Rattle.buckets.proofs.trading.take_priced.Given as goal

-- those of the partitions so far
abbrev pub invariant-loop-partition : goal.invariant-loop-partition
invariant-loop-partition g l =
    (rows : List OrderRow) → g.P.PricesExecutions.PricesBy rows l.prices
    → (l.unknown ≡ option_map unknown_of (first_unknown rows (rows_of_partitions (take l.partition-index l.partitions)).executions))
    × g.T.TakesSales.Has (kept_of l.bucket (priced rows (rows_of_partitions (take l.partition-index l.partitions)).executions)) l.into
