-- Order rows in lists whose references rise, each list above those before it.
-- Derived: it says where the code has its rows, and no answer is defined by it.
use Rattle.std.specs.Prelude.{◌<◌, ◌≤◌, List}
use Rattle.std.specs.List.{All, AllPairs, flat_map}
use Rattle.row_types.specs.declared.order.OrderRow.{OrderRow}
pub use Rattle.buckets.specs.declared.rising_orders.RisingList.{RisingList}

-- the rows of the lists, one list after another
abbrev pub rows_of_lists : List RisingList → List OrderRow
rows_of_lists lists = flat_map (λ list. list.rows) lists

-- each reference is above those before it
abbrev pub Rise : List OrderRow → Type 0
Rise = AllPairs (λ x y. x.order_no < y.order_no)

-- a later list has its last reference, and each other, above the last of an earlier one
abbrev pub IsAbove : RisingList → RisingList → Type 0
IsAbove list later = (list.last < later.last) × All (λ row. list.last < row.order_no) later.rows

-- within each list references rise, none is above the last, and each list is above those before it
pub record AreRising (lists : List RisingList) : Type 0 where
  pub rise : All (λ list. Rise list.rows) lists
  pub within : All (λ list. All (λ row. row.order_no ≤ list.last) list.rows) lists
  pub apart : AllPairs IsAbove lists
