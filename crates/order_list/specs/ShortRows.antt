-- Order rows in fewer bytes.
-- Derived: callers see a list of order rows.
use Rattle.std.specs.Prelude.{ℕ, ◌+◌, ◌*◌, ◌/◌, ◌%◌, ◌^◌, ◌<◌, ◌≤◌, List}
use Rattle.std.specs.Int.{from_le_bytes, w64}
use Rattle.std.specs.List.{All, AllPairs}
use Rattle.row_types.specs.declared.order.OrderRow.{OrderRow}
use Rattle.order_list.specs.declared.lean.Lean.{Lean}
use Rattle.order_list.specs.declared.offsets.Origin.{Origin}
use Rattle.order_list.specs.declared.unaligned.Unaligned.{Unaligned}
use Rattle.order_list.specs.declared.wide.Wide.{Wide}

-- no number of 24 bits that counts from it goes past the last number of 64 bits
abbrev pub IsOrigin : Origin → Type 0
IsOrigin origin = (origin.place + 2 ^ 24 ≤ 2 ^ 64) × (origin.order_no + 2 ^ 24 ≤ 2 ^ 64)

-- the number that has these bytes, the lowest first
unfoldable pub number_of : Unaligned → ℕ
number_of it = from_le_bytes w64 it.bytes

-- its reference, as an offset
abbrev pub offset_of : Lean → ℕ
offset_of row = number_of row.low % 2 ^ 24

-- the row with its place and its reference
abbrev pub row_of_lean : Origin → Lean → OrderRow
row_of_lean origin row = record {
  place = origin.place + number_of row.low / 2 ^ 24 % 2 ^ 24;
  order_no = origin.order_no + offset_of row;
  price = row.price_high * 2 ^ 16 + number_of row.low / 2 ^ 48;
}

-- each reference is above those before it
abbrev pub Rise : List Lean → Type 0
Rise = AllPairs (λ x y. offset_of x < offset_of y)

-- so it is, and each is below this offset
pub record RiseTo (above : ℕ) (rows : List Lean) : Type 0 where
  pub rise : Rise rows
  pub below : All (λ row. offset_of row < above) rows

-- the row with its numbers whole
abbrev pub row_of_wide : Wide → OrderRow
row_of_wide row = record { place = number_of row.place; order_no = number_of row.order_no; price = row.price }
