-- The sales by place are what a listing has.
use Rattle.std.proofs.Common.{◌≡◌, ltb, true, false, List, [], ◌∷◌, map, nat_eq, Less, arith, IsPermutation}
use Rattle.std.specs.List.{AllByRecursion, IsDistinct}
use Rattle.std.specs.List.Sorted.{IsStrictlySortedBy}
use Rattle.std.proofs.lemmas.Bool.{cond_both}
use Rattle.std.proofs.lemmas.Bool.Decides.{nat_tests}
use Rattle.std.proofs.lemmas.List.Sorted.{IsPermutation-refl, IsPermutation-sym, IsPermutation-trans, IsPermutation-append_left}
use Rattle.std.proofs.lemmas.List.Sorted.{IsPermutation-append_right, IsPermutation-append_comm}
use Rattle.row_types.specs.declared.trade.Sale.{Sale}
use Rattle.row_types.specs.SalesByPlace.{IsByPlace, place_cmp}
use Rattle.time_and_sales.specs.Lent.{AreApart}
use Rattle.time_and_sales.proofs.SortedByPlace.{one_listing}
use Rattle.buckets.specs.Products.{by_place, put_by_place}

kept_in : (P : Sale → Type 0) (sale : Sale) (xs : List Sale) → P sale → AllByRecursion P xs → AllByRecursion P (put_by_place sale xs)
kept_in P sale [] one all = (one, tt)
kept_in P sale (x ∷ xs) one all =
    let more = kept_in P sale xs one all.1 in
    cond_both (ltb sale.place x.place) (sale ∷ x ∷ xs) (x ∷ put_by_place sale xs) (AllByRecursion P) (λ _. (one, all)) (λ _. (all.0, more))

kept_by_place : (P : Sale → Type 0) (xs : List Sale) → AllByRecursion P xs → AllByRecursion P (by_place xs)
kept_by_place P [] all = tt
kept_by_place P (x ∷ xs) all = kept_in P x (by_place xs) all.0 (kept_by_place P xs all.1)

put_is : (sale : Sale) (xs : List Sale) → IsPermutation (sale ∷ xs) (put_by_place sale xs)
put_is sale [] = IsPermutation-refl (sale ∷ [])
put_is sale (x ∷ xs) =
    let more = put_is sale xs in
    cond_both (ltb sale.place x.place) (sale ∷ x ∷ xs) (x ∷ put_by_place sale xs) (IsPermutation (sale ∷ x ∷ xs)) (λ _. IsPermutation-refl (sale ∷ x ∷ xs))
    (λ _. IsPermutation-trans (sale ∷ x ∷ xs) (x ∷ sale ∷ xs) (x ∷ put_by_place sale xs)
    (IsPermutation-append_left xs (sale ∷ x ∷ []) (x ∷ sale ∷ []) (IsPermutation-append_comm (sale ∷ []) (x ∷ [])))
    (IsPermutation-append_right (x ∷ []) (sale ∷ xs) (put_by_place sale xs) more))

pub by_place_is : (xs : List Sale) → IsPermutation xs (by_place xs)
by_place_is [] = IsPermutation-refl []
by_place_is (x ∷ xs) =
    IsPermutation-trans (x ∷ xs) (x ∷ by_place xs) (put_by_place x (by_place xs))
    (IsPermutation-append_right (x ∷ []) xs (by_place xs) (by_place_is xs)) (put_is x (by_place xs))

lower : (a b : Sale) → ltb a.place b.place ≡ true → place_cmp a b ≡ Less
lower a b h = grind (arith, nat_tests)

higher : (a b : Sale) → ltb a.place b.place ≡ false → nat_eq a.place b.place ≡ false → place_cmp b a ≡ Less
higher a b h e = grind (arith, nat_tests)

through : (a b c : Sale) → ltb a.place b.place ≡ true → place_cmp b c ≡ Less → place_cmp a c ≡ Less
through a b c h e = grind (arith, nat_tests)

all_through : (a b : Sale) → ltb a.place b.place ≡ true → (xs : List Sale) → AllByRecursion (λ x. place_cmp b x ≡ Less) xs
    → AllByRecursion (λ x. place_cmp a x ≡ Less) xs
all_through a b h [] all = tt
all_through a b h (x ∷ xs) all = (through a b x h all.0, all_through a b h xs all.1)

put_rises : (sale : Sale) (xs : List Sale) → IsByPlace xs → AllByRecursion (λ x. nat_eq sale.place x.place ≡ false) xs → IsByPlace (put_by_place sale xs)
unfolding IsStrictlySortedBy
put_rises sale [] up apart = (tt, tt)
put_rises sale (x ∷ xs) up apart =
    let more = put_rises sale xs up.1 apart.1 in
    cond_both (ltb sale.place x.place) (sale ∷ x ∷ xs) (x ∷ put_by_place sale xs) IsByPlace
    (λ e. ((lower sale x e, all_through sale x e xs up.0), up)) (λ e. (kept_in (λ y. place_cmp x y ≡ Less) sale xs (higher sale x e apart.0) up.0, more))

of_places : (sale : Sale) (xs : List Sale) → AllByRecursion (λ n. nat_eq sale.place n ≡ false) (map (λ s. s.place) xs)
    → AllByRecursion (λ x. nat_eq sale.place x.place ≡ false) xs
of_places sale [] all = tt
of_places sale (x ∷ xs) all = (all.0, of_places sale xs all.1)

pub by_place_rises : (xs : List Sale) → AreApart xs → IsByPlace (by_place xs)
unfolding IsStrictlySortedBy IsDistinct
by_place_rises [] apart = tt
by_place_rises (x ∷ xs) apart =
    put_rises x (by_place xs) (by_place_rises xs apart.1) (kept_by_place (λ y. nat_eq x.place y.place ≡ false) xs (of_places x xs apart.0))

-- so a listing of the sales is them by place
pub listing_is_by_place : (sales listing : List Sale) → AreApart sales → IsPermutation sales listing → IsByPlace listing → listing ≡ by_place sales
listing_is_by_place sales listing apart h up =
    one_listing listing (by_place sales) up (by_place_rises sales apart)
    (IsPermutation-trans listing sales (by_place sales) (IsPermutation-sym sales listing h) (by_place_is sales))
