-- Lists of numbers: membership after a sort and a `dedup`, by a binary search, and as all that a rising list is.
use Rattle.std.proofs.Common.{◌≡◌, ℕ, ◌<◌, ◌≤◌, Bool, true, eqb, is_ok, List, [], length, get_or, Result, Ok, Err, Contains, refl, sym, ap, ◌∙◌, subst}
use Rattle.std.proofs.Common.{arith, Decides, IsSorted, IsPermutation, nat_cmp}
use Rattle.std.proofs.Math.Nat.{eq-or-lt_of_le}
use Rattle.std.specs.List.{dedup}
use Rattle.std.specs.List.Retain.{IsFiltered, DiffersFromLast}
use Rattle.std.specs.List.Sorted.{IsStrictlyIncreasing, IsBinarySearchResult}
use Rattle.std.proofs.lemmas.Bool.{eq-eqb, eqb-true, false_from_ne_true}
use Rattle.std.proofs.lemmas.Bool.Decides.{Decides-like, same_from_decides}
use Rattle.std.proofs.lemmas.Cmp.{nat_cmp_total}
use Rattle.std.proofs.lemmas.List.{get_or_default}
use Rattle.std.proofs.lemmas.List.Folds.{Any-from_list_any, list_any-from_Any}
use Rattle.std.proofs.lemmas.List.Filters.{dedup_is}
use Rattle.std.proofs.lemmas.List.Kept.{Contains-dedup_nat, Contains-from_dedup, AllPairs-from_increasing}
use Rattle.std.proofs.lemmas.List.Sorted.{list_any-IsPermutation, searched}
use Rattle.std.proofs.lemmas.Map.Keys.{IsStrictlyIncreasing-dedup, sorted_from_strictly_increasing}
use Rattle.base.specs.Among.{is_among}
use Rattle.base.proofs.Order.{same_from_items}

abbrev is_number : ℕ → ℕ → Bool
is_number wanted number = eqb number wanted

pub among_from : (numbers : List ℕ) (n : ℕ) → Contains numbers n → is_among numbers n ≡ true
among_from numbers n c = list_any-from_Any (is_number n) numbers (c.0, n, c.1, c.2, eq-eqb _ _ refl)

pub from_among : (numbers : List ℕ) (n : ℕ) → is_among numbers n ≡ true → Contains numbers n
from_among numbers n h = grind (arith, Any-from_list_any, eqb-true)

among_decides : (numbers : List ℕ) (n : ℕ) → Decides (is_among numbers n) (Contains numbers n)
among_decides numbers n = (from_among numbers n, among_from numbers n)

-- lists with the same members have the same numbers among them
pub same_members : (xs ys : List ℕ) (n : ℕ) → (Contains xs n → Contains ys n) → (Contains ys n → Contains xs n) → is_among xs n ≡ is_among ys n
same_members xs ys n to from = same_from_decides _ _ (Decides-like _ to from (among_decides xs n)) (among_decides ys n)

-- ---- sorted, and without repeats

module _ (rows sorted made : List ℕ) (moved : IsPermutation rows sorted) (order : IsSorted nat_cmp sorted)
    (kept : IsFiltered (DiffersFromLast eqb) [] sorted made) where
  pub made_rises : IsStrictlyIncreasing made
  made_rises = subst IsStrictlyIncreasing (sym (dedup_is eqb sorted made kept)) (IsStrictlyIncreasing-dedup sorted order)

  pub made_has : (n : ℕ) → is_among made n ≡ is_among rows n
  made_has n =
      ap (λ l. is_among l n) (dedup_is eqb sorted made kept)
      ∙ same_members (dedup eqb sorted) sorted n (Contains-from_dedup eqb sorted n) (Contains-dedup_nat sorted n)
      ∙ sym (list_any-IsPermutation (is_number n) rows sorted moved)

-- ---- a binary search

-- numbers that rise do not fall
rises_along : (numbers : List ℕ) → IsStrictlyIncreasing numbers → (i j : ℕ) → i ≤ j → j < length numbers → get_or numbers i 0 ≤ get_or numbers j 0
rises_along numbers rise i j h within = grind (arith, AllPairs-from_increasing, eq-or-lt_of_le)

-- what a binary search of rising numbers finds is among them, and nothing else is
pub found_among : (numbers : List ℕ) (n : ℕ) (r : Result ℕ ℕ) → IsStrictlyIncreasing numbers → IsBinarySearchResult (λ y. nat_cmp y n) numbers r
    → is_ok r ≡ is_among numbers n
found_among numbers n (Ok i) rise is =
    let at = searched numbers n (Ok i) is (rises_along numbers rise) in
    sym (among_from numbers n (i, at.0, get_or_default numbers i n 0 at.0 ∙ at.1))
found_among numbers n (Err i) rise is =
    let at = searched numbers n (Err i) is (rises_along numbers rise) in
    sym (false_from_ne_true _ (λ e.
    let c = from_among numbers n e in grind (arith, at.1 c.0, at.2 c.0, get_or_default numbers c.0 0 n c.1)))

-- two lists that rise and have the same numbers among them are one
pub same_from_numbers : (xs ys : List ℕ) → IsStrictlyIncreasing xs → IsStrictlyIncreasing ys → ((n : ℕ) → is_among xs n ≡ is_among ys n) → xs ≡ ys
same_from_numbers xs ys rise rises same =
    same_from_items nat_cmp nat_cmp_total xs ys (sorted_from_strictly_increasing xs rise) (sorted_from_strictly_increasing ys rises)
    (λ n c. from_among ys n (sym (same n) ∙ among_from xs n c))
    (λ n c. from_among xs n (same n ∙ among_from ys n c))
