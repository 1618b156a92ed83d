use Rattle.std.proofs.Common.{◌∷◌, refl, sym, ap, ◌∙◌, subst, arith, IsPermutation}
use Rattle.std.specs.Vec.Iter.{into_iter_items}
use Rattle.std.proofs.lemmas.List.Elements.{All-push}
use Rattle.row_types.specs.SalesByPlace.{IsByPlace}
use Rattle.time_and_sales.specs.Lent.{AreApart}
use Rattle.time_and_sales.proofs.MergedListings.{joined_parts, moved, none_left}
use Rattle.time_and_sales.proofs.listings.Listing.merge_all.Goals as goal

pub loop-listing-preserved : goal.loop-listing-preserved
loop-listing-preserved g c = record {
  told = moved (λ part. part.items) c.loop-listing.parts.items c.into_vec.result c.loop-listing.invariant.told
      (c.in-Some.ensures.steps.0 ∙ ap (λ l. l ∷ into_iter_items c.next.new.self) (sym c.into_vec.ensures.value)) c.in_ok-push.ensures.items;
  by_place = rw c.in_ok-push.ensures.items
      (All-push (λ part. IsByPlace part.items) c.loop-listing.parts.items c.into_vec.result c.loop-listing.invariant.by_place c.into_vec.ensures.by_place);
}

pub loop-listing-init : goal.loop-listing-init
loop-listing-init g c = record {
  told = rw (c.new-parts.ensures.items, c.into_iter-listing-iterator.ensures.into_iter_gives.0) refl;
  by_place = rw c.new-parts.ensures.items (λ k d h. absurd (omega arith));
}

pub merged-requires : goal.merged-requires
merged-requires g c = record {
  by_place = c.loop-listing.invariant.by_place;
  apart = subst AreApart
      (joined_parts c.loop-listing.parts.items _ _ c.loop-listing.invariant.told (none_left c.loop-listing.listing-iterator c.in-None.ensures.steps.0))
      c.requires;
}

pub returns-clause-permutation : goal.returns-clause-permutation
returns-clause-permutation g c =
    let all = joined_parts c.loop-listing.parts.items _ _ c.loop-listing.invariant.told (none_left c.loop-listing.listing-iterator c.in-None.ensures.steps.0) in
    subst (λ sales. IsPermutation sales c.in_ok-merged.field-0.items) (sym all) c.in_ok-merged.ensures.0
