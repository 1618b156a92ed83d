use Rattle.std.proofs.Common.{true, false, ◌<◌, ◌∷◌, ◌++◌, [], map, IsPermutation, refl, sym, ap, ◌∙◌, subst, arith, ltb-false, append-nil, map-id}
use Rattle.std.proofs.lemmas.Iterator.Adapters.{YieldsList-from_vec}
use Rattle.std.proofs.lemmas.List.Elements.{All-contains, Contains-append_left, Contains-push}
use Rattle.std.proofs.lemmas.List.Sorted.{All-permutation, IsNonDecreasingBy-from_all_adjacent, IsStrictWeakOrder-by_number}
use Rattle.itertools.proofs.AdaptorLemmas.{items_from_whole_run}
use Rattle.base.specs.declared.limits.TheConstants.{TIME_LIMIT}
use Rattle.row_types.specs.declared.trade.Sale.{Sale}
use Rattle.time_and_sales.specs.Lent.{all_sales}
use Rattle.time_and_sales.proofs.MergedListings.{before, parts_in_order}
use Rattle.sale_lines.proofs.MergedSlices.{merges, ran_out, ran_to, rest_of, slices_give}
use Rattle.time_and_sales.proofs.SortedByPlace.{place_of}
use Rattle.sale_lines.proofs.sales_in_ranges.lines.Goals as goal

pub write_named-requires-clause-time : goal.write_named-requires-clause-time
write_named-requires-clause-time c =
    let parts = c.args.parts.items in
    let road = YieldsList-from_vec parts c.into_iter.ensures.rest (c.into_iter.ensures.len ∙ c.args.parts.ok.0) in
    let run = c.in_ok-merge.ensures.items in
    let these = sym (map-id run.0.items) ∙ items_from_whole_run road run.0 run.1 run.2 in
    let sale = c.in-Some.sale in
    let so_far = ran_to merges c.in_ok-merge.merge c.into_iter-sale-iterator.result c.into_iter-sale-iterator.ensures.into_iter_gives c.loop-sale.yielded
    c.loop-sale.sale-iterator c.next.new.self c.loop-sale.yielded_by sale c.in-Some.ensures.steps in
    let gave = run.3 (map rest_of run.0.items) (slices_give _ (λ p j e. e) run.0.items) (c.loop-sale.yielded ++ sale ∷ []) false so_far in
    let early = All-permutation (λ (s : Sale). s.time < TIME_LIMIT) (all_sales (map rest_of run.0.items)) ((c.loop-sale.yielded ++ sale ∷ []) ++ gave.0) gave.1
    (rw these c.requires.times) in
    All-contains (λ (s : Sale). s.time < TIME_LIMIT) _ sale early
    (Contains-append_left (c.loop-sale.yielded ++ sale ∷ []) gave.0 sale (Contains-push c.loop-sale.yielded sale))

pub returns : goal.returns
returns c =
    let parts = c.args.parts.items in
    let road = YieldsList-from_vec parts c.into_iter.ensures.rest (c.into_iter.ensures.len ∙ c.args.parts.ok.0) in
    let sales = c.loop-sale.yielded in
    let run = c.in_ok-merge.ensures.items in
    let these = sym (map-id run.0.items) ∙ items_from_whole_run road run.0 run.1 run.2 in
    let ended = ran_out merges c.in_ok-merge.merge c.into_iter-sale-iterator.result c.into_iter-sale-iterator.ensures.into_iter_gives sales
    c.loop-sale.sale-iterator c.next.new.self c.loop-sale.yielded_by c.in-None.ensures.steps in
    let gave = run.3 (map rest_of run.0.items) (slices_give _ (λ p j e. e) run.0.items) sales true ended in
    let ordered = c.in_ok-merge.ensures.in_order in
    let those = sym (map-id ordered.0.items) ∙ items_from_whole_run road ordered.0 ordered.1 ordered.2 in
    let up = ordered.3 before refl (IsStrictWeakOrder-by_number place_of) (map rest_of ordered.0.items) (slices_give _ (λ p j e. e) ordered.0.items)
    (rw those (parts_in_order rest_of parts c.requires.by_place)) sales true ended in (
      sales,
      IsNonDecreasingBy-from_all_adjacent place_of sales (λ k d h. ltb-false _ _ (up k d (omega arith) h)),
      subst (λ l. IsPermutation (all_sales (map rest_of l)) sales) these
          (subst (IsPermutation (all_sales (map rest_of run.0.items))) (ap (λ l. sales ++ l) (gave.2 refl) ∙ append-nil sales) gave.1),
      c.loop-sale.invariant,
    )
