use Rattle.std.proofs.Common.{true, List, ◌++◌, Vec, IsPermutation, refl, sym, ap, ◌∙◌, subst, arith, flat_map, ltb-false, append-nil, map-id}
use Rattle.row_types.specs.declared.trade.Sale.{Sale}
use Rattle.time_and_sales.specs.Lent.{all_sales}
use Rattle.std.proofs.lemmas.List.Folds.{flat_map-map}
use Rattle.std.proofs.lemmas.List.Sorted.{IsNonDecreasingBy-from_all_adjacent, IsStrictWeakOrder-by_number}
use Rattle.std.proofs.lemmas.Iterator.Adapters.{YieldsList-from_vec}
use Rattle.std.proofs.lemmas.Result.{IfOk-weaker}
use Rattle.itertools.proofs.AdaptorLemmas.{items_from_whole_run}
use Rattle.time_and_sales.proofs.MergedListings.{before, items_of, parts_give, parts_in_order}
use Rattle.time_and_sales.proofs.SortedByPlace.{place_of, sorted_by_place}
use Rattle.time_and_sales.proofs.listings.merged.Goals as goal

pub returns : goal.returns
returns g c =
    IfOk-weaker c.collect.result _ _ (λ w ran.
    let road = YieldsList-from_vec c.args.parts.items c.into_iter.ensures.rest (c.into_iter.ensures.len ∙ c.args.parts.ok.0) in
    let run = c.in_ok-merge.ensures.items in
    let these = sym (map-id run.0.items) ∙ items_from_whole_run road run.0 run.1 run.2 in
    let gave = run.3 (items_of run.0.items) (parts_give _ (λ p j h. (h.0, h.1 ∙ p.ok.0)) run.0.items) ran.0 true (ran.1.0, ran.1.1, λ _. ran.1.2 tt) in
    let perm = subst (λ l. IsPermutation l ran.0)
    (flat_map-map (λ (l : List Sale). l) (λ (p : Vec Sale g.row.A.Denot). p.items) run.0.items ∙ ap (flat_map (λ (p : Vec Sale g.row.A.Denot). p.items)) these)
    (subst (IsPermutation (all_sales (items_of run.0.items))) (ap (λ l. ran.0 ++ l) (gave.2 refl) ∙ append-nil ran.0) gave.1) in
    let ordered = c.in_ok-merge.ensures.in_order in
    let those = sym (map-id ordered.0.items) ∙ items_from_whole_run road ordered.0 ordered.1 ordered.2 in
    let up = ordered.3 before refl (IsStrictWeakOrder-by_number place_of) (items_of ordered.0.items)
    (parts_give _ (λ p j h. (h.0, h.1 ∙ p.ok.0)) ordered.0.items)
    (rw those (parts_in_order (λ (p : Vec Sale g.row.A.Denot). p.items) c.args.parts.items c.requires.by_place)) ran.0 true
    (ran.1.0, ran.1.1, λ _. ran.1.2 tt) in
    rw ran.2.0 (
      perm,
      sorted_by_place _ ran.0 c.requires.apart perm
          (IsNonDecreasingBy-from_all_adjacent place_of ran.0 (λ k d h. ltb-false _ _ (up k d (omega arith) h))),
    )) c.collect.ensures.ran
