use Rattle.std.proofs.Common.{◌≡◌, filter, take}
use Rattle.order_list.specs.Filters.{is_needed}
use Rattle.buckets.specs.BucketRows.{rows_of_partitions}
use Rattle.buckets.proofs.needed.needed_orders.Given as goal

-- those of the partitions so far
abbrev pub invariant-loop-partition : goal.invariant-loop-partition
invariant-loop-partition l =
    l.rows.items ≡ filter (λ row. is_needed l.filter row.order_no) (rows_of_partitions (take l.partition-index l.partitions)).orders
