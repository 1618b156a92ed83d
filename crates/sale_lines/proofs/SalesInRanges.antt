-- The sales of many listings that are in a range of places.
use Rattle.std.proofs.Common.{◌≡◌, ◌+◌, eqb, List, ◌++◌, map, IsPermutation, arith, Bool, [], ◌∷◌, filter, refl, sym, ap, ◌∙◌}
use Rattle.std.specs.List.Sorted.{IsNonDecreasingBy}
use Rattle.std.proofs.lemmas.Bool.Decides.{nat_tests}
use Rattle.std.proofs.lemmas.List.{get_or-map, length-map, map_more, map_push, take_all}
use Rattle.std.proofs.lemmas.List.Sorted.{IsPermutation-sym, IsPermutation-trans}
use Rattle.std.proofs.lemmas.Map.Keys.{IsDistinct-from_apart, Less-from_sorted}
use Rattle.row_types.specs.declared.trade.Sale.{Sale}
use Rattle.row_types.specs.SalesByPlace.{place_cmp, IsByPlace}
use Rattle.time_and_sales.specs.Lent.{AreApart, all_sales}
use Rattle.std.proofs.lemmas.Grind.{common_steps}
use Rattle.std.proofs.lemmas.List.Elements.{filter-append}
use Rattle.std.proofs.lemmas.List.Kept.{IsStrictlySortedBy-filter}
use Rattle.base.proofs.Lists.{IsPermutation-filter}
use Rattle.time_and_sales.proofs.SortedByPlace.{no_sale, one_listing, place_of, places_rise, sorted_by_place}

places_differ : (sales : List Sale) → IsByPlace sales → AreApart sales
places_differ sales up =
    IsDistinct-from_apart eqb (map place_of sales) (λ i j d less within.
    let n = length-map sales place_of in
    let here = Less-from_sorted place_cmp sales i j no_sale up less (omega (arith, n)) in
    grind (arith, nat_tests, get_or-map place_of sales i no_sale d, get_or-map place_of sales j no_sale d))

-- sales by place are the only ones in that order
pub one_order : (sales sorted : List Sale) → IsByPlace sales → IsPermutation sales sorted → IsNonDecreasingBy place_of sorted → sorted ≡ sales
one_order sales sorted up h rise =
    one_listing sorted sales (sorted_by_place sales sorted (places_differ sales up) h rise) up (IsPermutation-sym sales sorted h)

-- the sales of a range of each list are the range of all sales
pub all_within : (p : Sale → Bool) (lists : List (List Sale)) → all_sales (map (filter p) lists) ≡ filter p (all_sales lists)
all_within p [] = refl
all_within p (sales ∷ lists) = ap (λ l. filter p sales ++ l) (all_within p lists) ∙ sym (filter-append p sales (all_sales lists))

-- a range of all sales is the range of their listing
pub range_is : (p : Sale → Bool) (sales all range : List Sale) → IsByPlace all → IsPermutation sales all → IsNonDecreasingBy place_of range
    → IsPermutation (filter p sales) range → range ≡ filter p all
range_is p sales all range up perm rise part =
    let back = IsPermutation-sym _ _ (IsPermutation-filter p sales all perm) in
    one_order (filter p all) range (IsStrictlySortedBy-filter place_cmp p all up) (IsPermutation-trans _ (filter p sales) _ back part) rise

-- what the loop over listings takes
pub ruleset loops = (common_steps, map_more, map_push, places_rise, take_all)
