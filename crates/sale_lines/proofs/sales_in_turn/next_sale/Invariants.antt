use Rattle.std.proofs.Common.{◌≡◌, filter, take}
use Rattle.base.specs.Least.{least_by}
use Rattle.time_and_sales.specs.Lent.{all_sales, lent}
use Rattle.time_and_sales.specs.Ranges.{is_behind, is_in_first}
use Rattle.time_and_sales.proofs.SortedByPlace.{place_of}
use Rattle.sale_lines.proofs.sales_in_turn.next_sale.Given as goal

-- that of the listings so far
abbrev pub invariant-loop-listing : goal.invariant-loop-listing
invariant-loop-listing l =
    l.next ≡ least_by place_of (filter (is_behind place_of l.last) (filter (is_in_first place_of l.bounds) (all_sales (lent (take l.listing-index l.listings)))))
