-- The order in which a table has its rows: by reference, and those of one reference by place.
-- Derived: it says how the code has its rows, and no answer is defined by it.
use Rattle.std.specs.Prelude.{◌≡◌, ◌⊎◌, ◌<◌, ◌≤◌, List, AllPairs}
use Rattle.order_table.specs.Orders.{OrderRow}

-- the second row may come after the first
abbrev pub MayFollow : OrderRow → OrderRow → Type 0
MayFollow row next = (row.order_no < next.order_no) ⊎ ((row.order_no ≡ next.order_no) × (row.place ≤ next.place))

-- of each two rows the later may follow the earlier
abbrev pub IsInOrder : List OrderRow → Type 0
IsInOrder = AllPairs MayFollow
