-- The rows of messages in partitions: by order references, and sales that have a price of their own by places.
-- To be believed of a crate used by itself: the answer isn't defined by partitions.
use Rattle.std.specs.Prelude.{◌≡◌, ℕ, ◌<◌, ◌+◌, ◌^◌, List, [], All, map, length, slice_index_or}
use Rattle.std.specs.List.{flat_map}
use Rattle.base.specs.Least.{numbers_below, part}
use Rattle.base.specs.declared.limits.TheConstants.{TIME_LIMIT, TRADE_LIMIT}
use Rattle.row_types.specs.declared.order.OrderRow.{OrderRow}
use Rattle.row_types.specs.declared.trade.Execution.{Execution}
use Rattle.row_types.specs.declared.trade.Sale.{Sale}
use Rattle.row_types.specs.declared.directory.DirectoryRow.{DirectoryRow}
use Rattle.day_rows.specs.DayRows.{AreByPlace, DayRows}
use Rattle.day_rows.specs.Messages.{Placed, executions, order_rows, own_priced_sales}

-- the rows of one partition, each list in the order of places
pub record PartitionView : Type 0 where
  pub orders : List OrderRow
  pub executions : List Execution
  pub own_priced : List Sale

-- no rows
abbrev pub no_rows_in : PartitionView
no_rows_in = record { orders = []; executions = []; own_priced = [] }

-- partition b of n: orders and executions by their references modulo n, sales by their places modulo n
abbrev pub partition_of : ℕ → DayRows → ℕ → PartitionView
partition_of n rows b = record {
  orders = part n (λ row. row.order_no) rows.orders b;
  executions = part n (λ execution. execution.order_no) rows.executions b;
  own_priced = part n (λ sale. sale.place) rows.own_priced b;
}

-- the rows of a morsel: those of orders and trades in partitions, and all breaks and directory rows
pub record MorselRowsView : Type 0 where
  pub partitions : List PartitionView
  pub breaks : List ℕ
  pub directory : List DirectoryRow

-- rows in n partitions
abbrev pub in_partitions : ℕ → DayRows → MorselRowsView
in_partitions n rows = record {
  partitions = map (partition_of n rows) (numbers_below n);
  breaks = rows.breaks;
  directory = rows.directory;
}

-- the partition of this number; no rows if there is none
abbrev pub partition_at : ℕ → MorselRowsView → PartitionView
partition_at b rows = slice_index_or rows.partitions b no_rows_in

-- the rows of partitions, one partition after another
abbrev pub joined_partitions : List PartitionView → PartitionView
joined_partitions partitions = record {
  orders = flat_map (λ rows. rows.orders) partitions;
  executions = flat_map (λ rows. rows.executions) partitions;
  own_priced = flat_map (λ rows. rows.own_priced) partitions;
}

-- a time and a place that fit six bytes each
abbrev pub FitSixBytes : ℕ → ℕ → Type 0
FitSixBytes time place = (time < TIME_LIMIT) × (place < 2 ^ 48)

-- they are the rows of some messages, by place: no place occurs twice in a list, there are fewer trades than a file has
-- room for, and the time and the place of each trade fit six bytes
pub record AreRowsByPlace (rows : PartitionView) : Type 0 where
  pub messages : List Placed
  pub by_place : AreByPlace messages
  pub orders : rows.orders ≡ order_rows messages
  pub executions : rows.executions ≡ executions messages
  pub own_priced : rows.own_priced ≡ own_priced_sales messages
  pub few : length rows.executions + length rows.own_priced < TRADE_LIMIT
  pub executions_fit : All (λ execution. FitSixBytes execution.time execution.place) rows.executions
  pub own_priced_fit : All (λ sale. FitSixBytes sale.time sale.place) rows.own_priced
