use Rattle.std.proofs.Common.{◌≡◌, ◌++◌, All}
use Rattle.std.specs.Vec.Iter.{into_iter_items}
use Rattle.row_types.specs.SalesByPlace.{IsByPlace}
use Rattle.time_and_sales.proofs.MergedListings.{items_of}
use Rattle.time_and_sales.proofs.listings.Listing.merge_all.Given as goal

-- the parts are the sales of the listings so far
abbrev pub invariant-loop-listing : goal.invariant-loop-listing
invariant-loop-listing g l = record {
  told : items_of l.parts.items ++ into_iter_items l.listing-iterator ≡ l.fn.listings.items;
  by_place : All (λ part. IsByPlace part.items) l.parts.items;
}
