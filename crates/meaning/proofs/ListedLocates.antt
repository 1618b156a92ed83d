-- The locates that pass a test, in rising order, and a binary search for their names.
use Rattle.std.proofs.Common.{◌≡◌, ℕ, ◌+◌, ◌<◌, ◌^◌, Bool, cond, ◌&&◌, eqb, List, [], ◌∷◌, ◌++◌, filter, Option, Some, None, IsPermutation, sym, ap, ◌∙◌, subst}
use Rattle.std.proofs.Common.{refl, arith, eqb-true, map-id, bytes_eq, true, false, ◌||◌, map, get_or, Result, Ok, Err, Ordering, Less, Equal, Greater, is_ok}
use Rattle.std.proofs.Common.{⊎_elim, IsSorted, nat_cmp, length, Bor, is_eq}
use Rattle.std.proofs.lemmas.List.Elements.{filter-append}
use Rattle.std.proofs.lemmas.List.FromFn.{get_or-range_with_len, length-range_with_len, map-range_with_len_more}
use Rattle.std.proofs.lemmas.List.Kept.{IsStrictlyIncreasing-filter}
use Rattle.std.proofs.lemmas.List.Sorted.{list_any-IsPermutation, searchable_from_sorted, IsPermutation-map}
use Rattle.std.proofs.lemmas.Map.Views.{any-filter_same}
use Rattle.std.specs.List.{list_any}
use Rattle.std.specs.List.Sorted.{IsStrictlyIncreasing, IsBinarySearchResult, IsSearchInRange}
use Rattle.base.specs.Among.{HasNumbersOf, is_among}
use Rattle.base.specs.Least.{numbers_below}
use Rattle.base.proofs.Among.{among_from, same_from_numbers}
use Rattle.probe.specs.Selection.{has_locate}
use Rattle.meaning.specs.Selected.{has_name, locates_of, selected_locates}
use Rattle.std.specs.Cmp.Lexicographic.{slice_cmp}
use Rattle.std.proofs.lemmas.Bool.{cases_lt}
use Rattle.std.proofs.lemmas.Cmp.{nat_list_cmp_total}
use Rattle.std.proofs.lemmas.List.Folds.{list_any_at, list_any_none}
use Rattle.std.proofs.lemmas.Map.Text.{is_eq-slice_cmp}

-- ---- the numbers below one more

numbers_more : (n : ℕ) → numbers_below (n + 1) ≡ numbers_below n ++ n ∷ []
numbers_more n = rw (map-id, map-id) at (map-range_with_len_more (λ (k : ℕ). k) 0 n n (omega arith))

pub numbers_rise : (n : ℕ) → IsStrictlyIncreasing (numbers_below n)
numbers_rise n k within =
    let long = length-range_with_len 0 n in
    omega (arith, long, within, get_or-range_with_len 0 n k 0 (omega (arith, long, within)), get_or-range_with_len 0 n (k + 1) 0 (omega (arith, long, within)))

module _ (test : ℕ → Bool) where
  -- one number more, if it passes
  pub passing_more : (n : ℕ) (passes : Bool) → passes ≡ test n
      → filter test (numbers_below (n + 1)) ≡ filter test (numbers_below n) ++ cond passes (n ∷ []) []
  passing_more n passes same = ap (filter test) (numbers_more n) ∙ filter-append test (numbers_below n) (n ∷ [])
      ∙ ap (λ b. filter test (numbers_below n) ++ cond b (n ∷ []) []) (sym same)

  -- a number below n is among them just where it passes
  pub among_passing : (n k : ℕ) → k < n → is_among (filter test (numbers_below n)) k ≡ test k
  among_passing n k below =
      let same : 0 + k ≡ k = omega arith in
      let there = among_from (numbers_below n) k (k, omega (arith, below, length-range_with_len 0 n), get_or-range_with_len 0 n k k below ∙ same) in
      any-filter_same (λ number. eqb number k) test (test k) (λ number same. ap test (eqb-true number k same)) (numbers_below n)
      ∙ ap (λ b. test k && b) there ∙ grind arith

-- ---- names and symbols

-- all that pass are those that are selected
pub all_selected : (symbols : List (List ℕ)) (names : ℕ → List ℕ) (n : ℕ) (rows : List ℕ)
    → rows ≡ filter (λ locate. has_name (Some symbols) (names locate)) (numbers_below n) → n ≡ 2 ^ 16 → rows ≡ selected_locates symbols names
unfolding selected_locates
all_selected symbols names n rows are all =
    are ∙ ap (λ k. filter (λ locate. has_name (Some symbols) (names locate)) (numbers_below k)) all

selected_rise : (symbols : List (List ℕ)) (names : ℕ → List ℕ) → IsStrictlyIncreasing (selected_locates symbols names)
unfolding selected_locates
selected_rise symbols names =
    IsStrictlyIncreasing-filter (λ locate. has_name (Some symbols) (names locate)) (numbers_below (2 ^ 16)) (numbers_rise (2 ^ 16))

-- so a rising list of their numbers is they
pub listed_selected : (symbols : List (List ℕ)) (names : ℕ → List ℕ) (rows listed : List ℕ) → rows ≡ selected_locates symbols names
    → HasNumbersOf rows listed → IsStrictlyIncreasing listed → listed ≡ selected_locates symbols names
listed_selected symbols names rows listed are numbers rise =
    same_from_numbers listed (selected_locates symbols names) rise (selected_rise symbols names) (λ k. numbers k ∙ ap (λ l. is_among l k) are)

pub among_selected : (symbols : List (List ℕ)) (names : ℕ → List ℕ) (locate : ℕ) → locate < 2 ^ 16
    → is_among (selected_locates symbols names) locate ≡ has_name (Some symbols) (names locate)
unfolding selected_locates
among_selected symbols names locate below = among_passing (λ k. has_name (Some symbols) (names k)) (2 ^ 16) locate below

-- so what a query with these symbols lists are the locates of those names
pub locates_agree : (A : Type 0) (symbols : Option (List (List ℕ))) (names : ℕ → List ℕ) (locate : ℕ) → locate < 2 ^ 16
    → has_locate {A = A} (locates_of symbols names) locate ≡ has_name symbols (names locate)
locates_agree A None names locate below = refl
locates_agree A (Some symbols) names locate below = among_selected symbols names locate below

-- a name is among the symbols where it is among them in another order
pub same_symbols : (symbols sorted : List (List ℕ)) (shown name : List ℕ) (b : Bool) → IsPermutation symbols sorted → shown ≡ name
    → b ≡ list_any (λ symbol. bytes_eq symbol shown) sorted → b ≡ list_any (λ symbol. bytes_eq symbol name) symbols
same_symbols symbols sorted shown name b moved same found =
    subst (λ n. b ≡ list_any (λ symbol. bytes_eq symbol n) symbols) same
    (found ∙ sym (list_any-IsPermutation (λ symbol. bytes_eq symbol shown) symbols sorted moved))

-- ---- a binary search of names in rising order finds those that are among them, and no others

abbrev bytes : Bor (List ℕ) → List ℕ
bytes name = name.now

abbrev order : Bor (List ℕ) → Bor (List ℕ) → Ordering
order x y = slice_cmp nat_cmp x.now y.now

any_of_map : (p : List ℕ → Bool) (names : List (Bor (List ℕ))) → list_any p (map bytes names) ≡ list_any (λ name. p name.now) names
any_of_map p [] = refl
any_of_map p (name ∷ names) = ap (λ b. p name.now || b) (any_of_map p names)

-- what the order tells of a name decides whether it is the one that is looked up
told : (x y : List ℕ) (o : Ordering) → slice_cmp nat_cmp x y ≡ o → bytes_eq x y ≡ is_eq o
told x y o e = sym (is_eq-slice_cmp x y) ∙ ap is_eq e

list_any_held : {X : Type 0} (p : X → Bool) (xs : List X) (i : ℕ) → i < length xs → ((d : X) → p (get_or xs i d) ≡ true) → list_any p xs ≡ true
list_any_held p [] i within here = absurd (omega (arith, within))
list_any_held p (x ∷ xs) i within here = list_any_at p (x ∷ xs) i x within (here x)

pub found_name : (names : List (Bor (List ℕ))) (name : List ℕ) (r : Result ℕ ℕ) → IsSorted order names → IsSearchInRange r (length names)
    → IsBinarySearchResult (λ y. slice_cmp nat_cmp y.now name) names r → is_ok r ≡ list_any (λ symbol. bytes_eq symbol name) (map bytes names)
found_name names name (Ok i) sorted within is =
    let here : (d : Bor (List ℕ)) → bytes_eq (get_or names i d).now name ≡ true = λ d. told (get_or names i d).now name Equal (is d) in
    sym (any_of_map _ names ∙ list_any_held (λ x. bytes_eq x.now name) names i within here)
found_name names name (Err i) sorted within is =
    let place = is (searchable_from_sorted nat_list_cmp_total bytes names name sorted) in
    let none : (k : ℕ) (d : Bor (List ℕ)) → k < length names → bytes_eq (get_or names k d).now name ≡ false =
    λ k d h. ⊎_elim (λ below. told (get_or names k d).now name Less (place.0 k d (omega arith) below))
    (λ above. told (get_or names k d).now name Greater (place.1 k d above h)) (cases_lt k i) in
    sym (any_of_map _ names ∙ list_any_none (λ x. bytes_eq x.now name) names none)

-- names in another order are the symbols in another order
pub moved_names : (names sorted : List (Bor (List ℕ))) (symbols : List (List ℕ)) → IsPermutation names sorted → map bytes names ≡ symbols
    → IsPermutation symbols (map bytes sorted)
moved_names names sorted symbols moved same = subst (λ all. IsPermutation all (map bytes sorted)) same (IsPermutation-map bytes names sorted moved)
