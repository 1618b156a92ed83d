-- One row more.
-- Derived: the answer isn't defined by partitions.
use Rattle.std.specs.Prelude.{◌≡◌, ℕ, ◌<◌, [], ◌∷◌, ◌++◌}
use Rattle.row_types.specs.declared.order.OrderRow.{OrderRow}
use Rattle.row_types.specs.declared.trade.Execution.{Execution}
use Rattle.row_types.specs.declared.trade.Sale.{Sale}
use Rattle.day_rows.specs.DayRows.{DayRows, joined}
use Rattle.morsel_rows.specs.Partitions.{MorselRowsView, PartitionView, in_partitions}

-- a partition with one row more at its end, of each kind
abbrev pub with_order : OrderRow → PartitionView → PartitionView
with_order row rows = record rows { orders = rows.orders ++ row ∷ [] }

abbrev pub with_execution : Execution → PartitionView → PartitionView
with_execution row rows = record rows { executions = rows.executions ++ row ∷ [] }

abbrev pub with_sale : Sale → PartitionView → PartitionView
with_sale row rows = record rows { own_priced = rows.own_priced ++ row ∷ [] }

-- if the old rows are some rows in n partitions, the new ones are those and others after them, in n partitions
abbrev pub BecomesJoined : DayRows → MorselRowsView → MorselRowsView → Type 0
BecomesJoined more old new =
    (n : ℕ) (rows : DayRows) → 0 < n → old ≡ in_partitions n rows → new ≡ in_partitions n (joined rows more)
