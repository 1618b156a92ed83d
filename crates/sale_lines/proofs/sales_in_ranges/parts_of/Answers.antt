use Rattle.std.proofs.Common.{arith}
use Rattle.std.proofs.lemmas.List.Elements.{All-push}
use Rattle.std.proofs.lemmas.List.Kept.{IsStrictlySortedBy-filter}
use Rattle.time_and_sales.specs.Ranges.{is_in_first}
use Rattle.row_types.specs.SalesByPlace.{place_cmp, IsByPlace}
use Rattle.sale_lines.proofs.MergedSlices.{rest_of}
use Rattle.time_and_sales.proofs.SortedByPlace.{place_of}
use Rattle.sale_lines.proofs.SalesInRanges.{loops}
use Rattle.sale_lines.proofs.sales_in_ranges.parts_of.Goals as goal

pub loop-listing-preserved : goal.loop-listing-preserved
loop-listing-preserved c = record {
  sales = grind (arith, loops);
  by_place = rw c.in_ok-push.ensures.items
      (All-push (λ part. IsByPlace (rest_of part)) c.loop-listing.parts.items c.copied.result c.loop-listing.invariant.by_place
      (rw (c.copied.ensures.source, c.iter.ensures.rest, c.within-sales.ensures)
      (IsStrictlySortedBy-filter place_cmp (is_in_first place_of c.args.bounds.now) c.items.result.now c.items.ensures.by_place)));
}
