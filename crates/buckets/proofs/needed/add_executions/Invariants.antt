use Rattle.std.proofs.Common.{ℕ, List, ◌++◌, take}
use Rattle.order_list.specs.Filters.{IsFilterOf}
use Rattle.buckets.specs.BucketRows.{executed_in, rows_of_partitions}
use Rattle.buckets.proofs.needed.add_executions.Given as goal

-- with those of the partitions so far
abbrev pub invariant-loop-partition : goal.invariant-loop-partition
invariant-loop-partition l =
    (executed ordered : List ℕ) → IsFilterOf executed ordered l.initial.filter
    → IsFilterOf (executed ++ executed_in (rows_of_partitions (take l.partition-index l.partitions))) ordered l.filter
