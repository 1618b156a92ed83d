use Rattle.std.proofs.Common.{◌≡◌, All, filter, map, take}
use Rattle.time_and_sales.specs.Ranges.{is_in_first}
use Rattle.row_types.specs.SalesByPlace.{IsByPlace}
use Rattle.time_and_sales.specs.Lent.{lent}
use Rattle.sale_lines.proofs.MergedSlices.{rest_of}
use Rattle.time_and_sales.proofs.SortedByPlace.{place_of}
use Rattle.sale_lines.proofs.sales_in_ranges.parts_of.Given as goal

-- the parts are of the listings so far
abbrev pub invariant-loop-listing : goal.invariant-loop-listing
invariant-loop-listing l = record {
  sales : map rest_of l.parts.items ≡ map (filter (is_in_first place_of l.bounds)) (lent (take l.listing-index l.listings));
  by_place : All (λ part. IsByPlace (rest_of part)) l.parts.items;
}
