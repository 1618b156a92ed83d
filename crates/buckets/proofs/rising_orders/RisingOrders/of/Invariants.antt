use Rattle.std.proofs.Common.{◌≡◌, take}
use Rattle.buckets.specs.BucketRows.{rows_of_partitions}
use Rattle.buckets.specs.RisingLists.{AreRising, rows_of_lists}
use Rattle.buckets.proofs.rising_orders.RisingOrders.of.Given as goal

-- the lists of the partitions so far
abbrev pub invariant-loop-partition : goal.invariant-loop-partition
invariant-loop-partition l = record {
  rising : AreRising l.lists.items;
  rows : rows_of_lists l.lists.items ≡ (rows_of_partitions (take l.partition-index l.partitions)).orders;
}
