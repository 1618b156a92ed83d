use Rattle.std.proofs.Common.{◌≡◌, ◌++◌, filter}
use Rattle.order_list.specs.Filters.{is_needed}
use Rattle.buckets.proofs.needed.append_needed.Given as goal

-- with those of the rows that are left, those of all
abbrev pub invariant-loop-row : goal.invariant-loop-row
invariant-loop-row l =
    l.rows.items ++ filter (λ row. is_needed l.found row.order_no) l.row-iterator
    ≡ l.initial.rows.items ++ filter (λ row. is_needed l.found row.order_no) l.orders
