use Rattle.std.proofs.Common.{ℕ, List, ◌++◌, take}
use Rattle.order_list.specs.Filters.{IsFilterOf}
use Rattle.buckets.specs.BucketRows.{ordered_in, rows_of_partitions}
use Rattle.buckets.proofs.needed.add_orders.Given as goal

-- with those of the partitions so far
abbrev pub invariant-loop-partition : goal.invariant-loop-partition
invariant-loop-partition l =
    (executed ordered : List ℕ) → IsFilterOf executed ordered l.initial.filter
    → IsFilterOf executed (ordered ++ ordered_in (rows_of_partitions (take l.partition-index l.partitions))) l.filter
