use Rattle.std.proofs.Common.{rules, sym, ◌∙◌}
use Rattle.std.proofs.lemmas.List.Sorted.{IsNonDecreasingBy-from_sort_by_key, IsPermutation-trans}
use Rattle.time_and_sales.proofs.SortedByPlace.{on_ok, place_of, sorted_by_place}
use Rattle.time_and_sales.proofs.listings.put_by_place.Goals as goal

pub returns-then-is_err-clause-by_place : goal.returns-then-is_err-clause-by_place
returns-then-is_err-clause-by_place g c =
    sorted_by_place _ _ c.requires
    (IsPermutation-trans _ _ _ c.sort_by_key.ensures.permutation c.sort_unstable_by_key.ensures.permutation)
    (IsNonDecreasingBy-from_sort_by_key place_of _ c.sort_unstable_by_key.ensures.sorted (λ a r q k. search rules))

pub returns-else-is_err-clause-by_place : goal.returns-else-is_err-clause-by_place
returns-else-is_err-clause-by_place g c =
    sorted_by_place _ _ c.requires c.sort_by_key.ensures.permutation
    (IsNonDecreasingBy-from_sort_by_key place_of _
    (on_ok c.sort_by_key.result _ c.sort_by_key.ensures.sorted (sym c.is_err.ensures.value ∙ c.if-is_err.false)) (λ a r q k. search rules))
