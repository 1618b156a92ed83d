-- Order rows: which row prices a reference, which row repeats one, and what a table keeps.
-- To be believed.
use Rattle.std.specs.Prelude.{◌≡◌, ℕ, ◌==◌, nat_lt, Bool, ◌&&◌, if◌then◌else◌, List, Option, Some, None, filter}
use Rattle.std.specs.List.{find, list_any}
pub use Rattle.row_types.specs.declared.order.OrderRow.{OrderRow}
pub use Rattle.order_table.specs.declared.table.OrderTable.{OrderTable}
pub use Rattle.order_table.specs.declared.table.Repeated.{Repeated}
use Rattle.base.specs.Least.{least_by}

-- the row of least place that gives the reference
abbrev pub first_row : List OrderRow → ℕ → Option OrderRow
first_row rows order_no = least_by (λ row. row.place) (filter (λ row. row.order_no == order_no) rows)

-- the price of a row, if it comes before the place
abbrev pub price_if_before : ℕ → Option OrderRow → Option ℕ
price_if_before place None = None
price_if_before place (Some row) = if nat_lt row.place place then Some row.price else None

-- the price of the first row of the reference, if that row comes before the place
abbrev pub price_before : List OrderRow → ℕ → ℕ → Option ℕ
price_before rows order_no place = price_if_before place (first_row rows order_no)

-- whether a row of smaller place gives the same reference
abbrev pub is_repeated : List OrderRow → OrderRow → Bool
is_repeated rows row = list_any (λ other. (other.order_no == row.order_no) && nat_lt other.place row.place) rows

-- of the rows whose reference a row of smaller place gives, the one of least place
abbrev pub first_repeated : List OrderRow → Option OrderRow
first_repeated rows = least_by (λ row. row.place) (filter (is_repeated rows) rows)

-- what is reported of a repeated row
abbrev pub repeated_of : OrderRow → Repeated
repeated_of row = record { place = row.place; order_no = row.order_no }

-- the row that a table keeps under a reference: of its rows the first that gives it
abbrev pub kept_row : {A : Type 0} → OrderTable A → ℕ → Option OrderRow
kept_row table order_no = find (λ row. row.order_no == order_no) table.rows

-- the table keeps the first row of each reference
abbrev pub IsTableOf : {A : Type 0} → List OrderRow → OrderTable A → Type 0
IsTableOf rows table = (order_no : ℕ) → kept_row table order_no ≡ first_row rows order_no
