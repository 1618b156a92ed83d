-- Which references are needed.
-- To be believed of a crate used by itself: it says which rows the code leaves out, and no answer is defined by it.
use Rattle.std.specs.Prelude.{◌≡◌, ℕ, Bool, true, List, filter, map}
use Rattle.std.specs.List.{All, AllPairs}
use Rattle.row_types.specs.declared.order.OrderRow.{OrderRow}
use Rattle.order_list.specs.Bits.{may_have}
use Rattle.order_list.specs.declared.filter.OrderFilter.{OrderFilter}

-- whether the orders of the reference are needed
abbrev pub is_needed : OrderFilter → ℕ → Bool
is_needed found order_no = may_have found.needed order_no

-- the filter has these references of executions and these of orders
pub record IsFilterOf (executed ordered : List ℕ) (found : OrderFilter) : Type 0 where
  pub needs_executed : All (λ order_no. is_needed found order_no ≡ true) executed
  pub has_seen : All (λ order_no. may_have found.seen order_no ≡ true) ordered
  pub needs_repeated : AllPairs (λ x y. x ≡ y → is_needed found x ≡ true) ordered

-- they are those of the rows that some filter of these executions and of all rows needs, in the rows' order
pub record AreNeeded (executed : List ℕ) (rows needed : List OrderRow) : Type 0 where
  pub found : OrderFilter
  pub of : IsFilterOf executed (map (λ row. row.order_no) rows) found
  pub are : needed ≡ filter (λ row. is_needed found row.order_no) rows
