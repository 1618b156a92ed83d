use Rattle.std.proofs.Common.{List, ◌++◌, take}
use Rattle.row_types.specs.declared.trade.Sale.{Sale}
use Rattle.buckets.specs.BucketRows.{rows_of_partitions}
use Rattle.buckets.specs.FoundRows.{kept_of}
use Rattle.buckets.proofs.trading.take_own_priced.Given as goal

-- those of the partitions so far behind what there was
abbrev pub invariant-loop-partition : goal.invariant-loop-partition
invariant-loop-partition g l =
    (before : List Sale) → g.T.TakesSales.Has before l.initial.into
    → g.T.TakesSales.Has (before ++ kept_of l.bucket (rows_of_partitions (take l.partition-index l.partitions)).own_priced) l.into
