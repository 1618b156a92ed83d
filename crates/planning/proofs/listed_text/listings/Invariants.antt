use Rattle.std.proofs.Common.{◌≡◌, filter_map, map, take}
use Rattle.std.specs.Arc.{arc_value}
use Rattle.time_and_sales.specs.Lent.{lent}
use Rattle.planning.specs.AllBuckets.{listing_of}
use Rattle.planning.proofs.listed_text.listings.Given as goal

-- the listings of the products so far
abbrev pub invariant-loop-product : goal.invariant-loop-product
invariant-loop-product l = lent l.listings.items ≡ filter_map listing_of (map arc_value (take l.product-index l.products))
