-- Of rows in the order of their references: that a sort gives it, which row comes first, and what a search finds.
use Rattle.std.proofs.Common.{◌≡◌, ℕ, suc, ◌<◌, ◌≤◌, Bool, true, false, cond, eqb, ltb, List, [], ◌∷◌, Some, filter}
use Rattle.std.proofs.Common.{Ordering, nat_cmp, IsPermutation, refl, sym, ap, ◌∙◌, arith, map, ◌⊎◌, inl, inr, ⊎_elim}
use Rattle.std.proofs.Math.Nat.{eq-or-lt_of_le}
use Rattle.std.specs.Cmp.{IsTotalOrder}
use Rattle.std.specs.List.{All, AllPairs, IsAllAdjacentAnswer, IsDistinct, find}
use Rattle.std.specs.List.Sorted.{IsNonDecreasingBy, IsSortedByKey}
use Rattle.std.specs.Ordering.{is_lt, ordering_then}
use Rattle.std.proofs.lemmas.Bool.{cases_Bool, eqb-true, le-ltb}
use Rattle.std.proofs.lemmas.Bool.Decides.{nat_tests}
use Rattle.std.proofs.lemmas.Cmp.{nat_cmp_total, on_total, then_total}
use Rattle.std.proofs.lemmas.List.Elements.{All-filter, filter_passes}
use Rattle.std.proofs.lemmas.List.Sorted.{sorted_far, ranks_by}
use Rattle.std.proofs.lemmas.Map.Keys.{Less-from_sorted, sorted_from_all_adjacent}
use Rattle.base.specs.Least.{least_of}
use Rattle.order_table.specs.Orders.{OrderRow, first_row}
use Rattle.order_table.specs.RowsInOrder.{MayFollow, IsInOrder}
use Rattle.base.proofs.Lists.{IsPermutation-filter}
use Rattle.base.proofs.Least.{least_by-permutation}
use Rattle.base.proofs.Order.{TellsApart-filter, TellsApart-from_distinct}

abbrev pub place_of : OrderRow → ℕ
place_of row = row.place

abbrev number_of : OrderRow → ℕ
number_of row = row.order_no

-- ---- what a sort gives

lexicographic : (a b p q : ℕ) → is_lt (ordering_then (nat_cmp b a) (nat_cmp q p)) ≡ false → (a < b) ⊎ ((a ≡ b) × (p ≤ q))
lexicographic a b p q h = grind (arith, nat_tests)

abbrev pub key_of : OrderRow → ℕ × ℕ
key_of row = (row.order_no, row.place)

abbrev pub key_cmp : ℕ × ℕ → ℕ × ℕ → Ordering
key_cmp x y = ordering_then (nat_cmp x.0 y.0) (nat_cmp x.1 y.1)

key_total : IsTotalOrder key_cmp
key_total = then_total (on_total (λ p. p.0) nat_cmp_total) (on_total (λ p. p.1) nat_cmp_total)

pub in_order_from_sorted : (rows : List OrderRow) → IsSortedByKey key_of key_cmp rows → IsInOrder rows
in_order_from_sorted rows up i j d p q =
    lexicographic _ _ _ _ (sorted_far (λ x y. is_lt (key_cmp (key_of x) (key_of y))) (ranks_by key_total key_of) rows up i j d (omega (arith, p)) q)

-- ---- references that rise

-- of elements by a number
module _ {X : Type 0} (f : X → ℕ) (rows : List X) where
  pub rising_from_answer : (rises : Bool) → IsAllAdjacentAnswer (λ x y b. b ≡ ltb (f x) (f y)) rows rises
      → rises ≡ true → AllPairs (λ x y. f x < f y) rows
  rising_from_answer true h e = λ i j d p q.
      let sorted = sorted_from_all_adjacent (on_total f nat_cmp_total) rows d (λ k within. let test = h k d within in grind (arith, nat_tests)) in
      let less = Less-from_sorted (λ x y. nat_cmp (f x) (f y)) rows i j d sorted p q in grind (arith, nat_tests)
  rising_from_answer false h e = absurd (cc)

  pub rising_does_not_fall : AllPairs (λ x y. f x < f y) rows → IsNonDecreasingBy f rows
  rising_does_not_fall up i j d p q =
      ⊎_elim (λ (e : i ≡ j). rw e (omega arith)) (λ (l : i < j). let below = up i j d l q in omega arith) (eq-or-lt_of_le p)

pub in_order_from_rising : (rows : List OrderRow) → AllPairs (λ x y. x.order_no < y.order_no) rows → IsInOrder rows
in_order_from_rising rows up i j d p q = inl (up i j d p q)

pub not_above : (row next : OrderRow) → MayFollow row next → row.order_no ≤ next.order_no
not_above row next h = ⊎_elim (λ less. omega (arith, less)) (λ tied. omega (arith, tied.0)) h

-- ---- the first row of a reference

least_head : (row : OrderRow) (rows : List OrderRow) → All (λ other. row.place ≤ other.place) rows → least_of place_of row rows ≡ row
least_head row [] low = refl
least_head row (other ∷ rows) low =
    ap (λ b. least_of place_of (cond b other row) rows) (le-ltb other.place row.place (low 0 row (omega arith)))
    ∙ least_head row rows (λ k d l. low (suc k) d (omega (arith, l)))

-- in rows in order it comes first
pub first_is_least : (rows : List OrderRow) (q : ℕ) → IsInOrder rows → find (λ row. eqb row.order_no q) rows ≡ first_row rows q
first_is_least [] q up = refl
first_is_least (row ∷ rows) q up =
    let others = filter (λ (other : OrderRow). eqb other.order_no q) rows in
    let more = first_is_least rows q (λ i j d p r. up (suc i) (suc j) d (omega arith) (omega arith)) in
    elim (cases_Bool (eqb row.order_no q)) [
      | inl e ↦ (rw e (ap Some (sym (least_head row others (low (eqb-true _ _ e))))))
      | inr e ↦ (rw e more)
    ]
  where
    low : row.order_no ≡ q → All (λ (other : OrderRow). row.place ≤ other.place) (filter (λ (other : OrderRow). eqb other.order_no q) rows)
    low e k d l =
        let passes = eqb-true _ _ (filter_passes (λ (other : OrderRow). eqb other.order_no q) rows k d l) in
        ⊎_elim (λ less. absurd (omega (arith, less, passes, e))) (λ tied. tied.1)
        (All-filter (λ (other : OrderRow). eqb other.order_no q) (MayFollow row) rows (λ i e r. up 0 (suc i) e (omega arith) (omega arith)) k d l)

-- and so it does where they were given in another order
pub first_as_given : (rows sorted : List OrderRow) (q : ℕ) → IsDistinct eqb (map place_of rows) → IsPermutation rows sorted → IsInOrder sorted
    → find (λ row. eqb row.order_no q) sorted ≡ first_row rows q
first_as_given rows sorted q distinct h up =
    first_is_least sorted q up
    ∙ sym (least_by-permutation place_of _ _ (TellsApart-filter place_of (λ row. eqb row.order_no q) rows (TellsApart-from_distinct place_of rows distinct))
    (IsPermutation-filter (λ row. eqb row.order_no q) rows sorted h))
