-- A bucket: the rows of one partition, morsel by morsel, and what is asked of them.
-- To be believed of a crate used by itself: the answer isn't defined by buckets.
use Rattle.std.specs.Prelude.{ℕ, List, map}
use Rattle.std.specs.Arc.{arc_value}
use Rattle.std.specs.Borrow.{Bor}
use Rattle.std.specs.declared.alloc.Global.{Global}
use Rattle.std.specs.declared.sync.Arc.{Arc}
use Rattle.probe.specs.declared.selection.Selection.{Selection}
use Rattle.meaning.specs.declared.query.What.{What}
use Rattle.morsel_rows.specs.Partitions.{MorselRowsView, PartitionView, joined_partitions, partition_at}
use Rattle.buckets.specs.declared.plan.Plan.{Plan}

-- what contracts see of a bucket
pub record BucketView : Type 0 where
  pub number : ℕ
  -- those of the partition of its number, morsel by morsel
  pub rows : List PartitionView
  pub breaks : List ℕ
  pub selection : Selection Global
  pub what : What

-- the rows of the partition of this number, morsel by morsel
abbrev pub rows_at : ℕ → List (Arc MorselRowsView Global) → List PartitionView
rows_at number morsels = map (λ morsel. partition_at number (arc_value morsel)) morsels

-- the rows that a plan has of the partition of this number, morsel by morsel
abbrev pub planned_rows : ℕ → Plan → List PartitionView
planned_rows number plan = rows_at number plan.rows.items

-- the bucket of this number
abbrev pub bucket_of : Plan → ℕ → BucketView
bucket_of plan number = record {
  number = number;
  rows = planned_rows number plan;
  breaks = plan.breaks;
  selection = plan.selection;
  what = plan.what;
}

-- the rows of borrowed partitions, one partition after another
abbrev pub rows_of_partitions : List (Bor PartitionView) → PartitionView
rows_of_partitions partitions = joined_partitions (map (λ partition. partition.now) partitions)

-- the references of executions
abbrev pub executed_in : PartitionView → List ℕ
executed_in rows = map (λ execution. execution.order_no) rows.executions

-- the references of orders
abbrev pub ordered_in : PartitionView → List ℕ
ordered_in rows = map (λ row. row.order_no) rows.orders
