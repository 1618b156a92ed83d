use Rattle.std.proofs.Common.{◌≡◌, ℕ, List, ◌++◌, map}
use Rattle.order_list.specs.Filters.{IsFilterOf}
use Rattle.buckets.proofs.needed.add_orders_of.Given as goal

-- with those orders that make up all with those of the rows that are left
abbrev pub invariant-loop-row : goal.invariant-loop-row
invariant-loop-row l =
    (executed ordered : List ℕ) → IsFilterOf executed ordered l.initial.filter
    → (seen : List ℕ) × IsFilterOf executed seen l.filter
    × (seen ++ map (λ row. row.order_no) l.row-iterator ≡ ordered ++ map (λ row. row.order_no) l.orders)
