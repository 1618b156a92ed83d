-- Which row repeats a reference, and the first that does: in any order, and in rows in order, where each repeats that of the row before it.
use Rattle.std.proofs.Common.{◌≡◌, ℕ, suc, ◌+◌, ◌-◌, ◌<◌, ◌≤◌, ◌&&◌, cond, eqb, ltb, Bool, true, false, List, [], ◌∷◌, ◌++◌, length, map, take, get_or}
use Rattle.std.proofs.Common.{Option, Some, None, filter, option_to_list, Contains, IsPermutation, refl, sym, ap, ◌∙◌, arith, ◌≢◌, inr, ⊎_elim}
use Rattle.std.proofs.Math.Nat.{eq-or-lt_of_le}
use Rattle.std.specs.List.{AllPairs, IsDistinct}
use Rattle.std.proofs.lemmas.Bool.{and_from, and_parts, both_ways, cases_lt, eq-eqb, eqb-true, false_from_ne_true, lt-ltb, ltb-true}
use Rattle.std.proofs.lemmas.Cmp.{nat_eq_equiv}
use Rattle.std.proofs.lemmas.List.{append-nil, length-map, get_or-map, get_or_default}
use Rattle.std.proofs.lemmas.List.Elements.{filter_more}
use Rattle.std.proofs.lemmas.List.Folds.{Any-from_list_any, list_any_at}
use Rattle.std.proofs.lemmas.List.Sorted.{list_any-IsPermutation, IsPermutation-map}
use Rattle.std.proofs.lemmas.Map.Keys.{apart_from_distinct, IsDistinct-IsPermutation}
use Rattle.base.specs.Least.{least_by}
use Rattle.order_table.specs.Orders.{OrderRow, is_repeated, first_repeated}
use Rattle.order_table.specs.RowsInOrder.{MayFollow, IsInOrder}
use Rattle.base.proofs.Lists.{IsPermutation-filter}
use Rattle.std.proofs.lemmas.List.MinMax.{IsStrictWeakOrder-by_number}
use Rattle.base.proofs.Least.{best_by-append, better_option, least_by-permutation}
use Rattle.base.proofs.Order.{TellsApart-filter, TellsApart-from_distinct}
use Rattle.order_table.proofs.RowsInOrder.{place_of, in_order_from_rising, not_above}

abbrev repeats : OrderRow → OrderRow → Bool
repeats row other = eqb other.order_no row.order_no && ltb other.place row.place

pub repeated_by : (rows : List OrderRow) (row : OrderRow) → is_repeated rows row ≡ true
    → (other : OrderRow) × Contains rows other × (other.order_no ≡ row.order_no) × (other.place < row.place)
repeated_by rows row h =
    let a = Any-from_list_any (repeats row) rows h in
    let p = and_parts _ _ a.4 in
    (a.1, (a.0, a.2, a.3), eqb-true _ _ p.0, ltb-true _ _ p.1)

-- ---- in rows in order

module _ (rows : List OrderRow) (up : IsInOrder rows) (d : OrderRow) where
  follows : (i j : ℕ) → i ≤ j → j < length rows → MayFollow (get_or rows i d) (get_or rows j d)
  follows i j p q =
      ⊎_elim (λ (same : i ≡ j). rw same (inr (refl, omega arith))) (λ (less : i < j). up i j d less q) (eq-or-lt_of_le p)

  -- no row repeats a reference that the row before it doesn't give
  pub is_new : (i : ℕ) → i < length rows → (0 < i → (get_or rows (i - 1) d).order_no ≢ (get_or rows i d).order_no)
      → is_repeated rows (get_or rows i d) ≡ false
  is_new i within differs = false_from_ne_true _ (λ h.
      let r = repeated_by rows (get_or rows i d) h in
      let there : get_or rows r.1.0 d ≡ r.0 = get_or_default rows r.1.0 d r.0 r.1.1 ∙ r.1.2 in
      ⊎_elim
      (λ (before : r.1.0 < i).
      let up_to_last = not_above (get_or rows r.1.0 d) (get_or rows (i - 1) d) (follows r.1.0 (i - 1) (omega arith) (omega arith)) in
      let from_last = not_above (get_or rows (i - 1) d) (get_or rows i d) (follows (i - 1) i (omega arith) within) in
      differs (omega arith) (omega (arith, up_to_last, from_last, r.2, ap (λ (z : OrderRow). z.order_no) there)))
      (λ (after : i ≤ r.1.0).
      ⊎_elim (λ less. absurd (omega (arith, less, r.2, ap (λ (z : OrderRow). z.order_no) there)))
      (λ tied. absurd (omega (arith, tied.1, r.3, ap place_of there))) (follows i r.1.0 after r.1.1))
      (cases_lt r.1.0 i))

  -- and each repeats the one that it gives
  pub is_again : (i : ℕ) → 0 < i → i < length rows → IsDistinct eqb (map place_of rows) → (get_or rows (i - 1) d).order_no ≡ (get_or rows i d).order_no
      → is_repeated rows (get_or rows i d) ≡ true
  is_again i some within distinct same =
      let n = length-map rows place_of in
      let last : get_or (map place_of rows) (i - 1) 0 ≡ (get_or rows (i - 1) d).place = get_or-map place_of rows (i - 1) d 0 (omega arith) in
      let now : get_or (map place_of rows) i 0 ≡ (get_or rows i d).place = get_or-map place_of rows i d 0 within in
      let apart = apart_from_distinct eqb (map place_of rows) (i - 1) i 0 distinct (omega arith) (omega (arith, n)) in
      let differ : (get_or rows (i - 1) d).place ≢ (get_or rows i d).place = λ e. both_ways _ apart (eq-eqb _ _ (last ∙ e ∙ sym now)) in
      ⊎_elim (λ less. absurd (omega (arith, less, same)))
      (λ tied. list_any_at (repeats (get_or rows i d)) rows (i - 1) d (omega arith)
      (and_from _ _ (eq-eqb _ _ same) (lt-ltb _ _ (omega (arith, tied.1, differ)))))
      (follows (i - 1) i (omega arith) within)

-- ---- the first repeated row of the rows so far

abbrev pub so_far : List OrderRow → ℕ → Option OrderRow
so_far rows i = least_by place_of (filter (is_repeated rows) (take i rows))

pub none_first : (rows : List OrderRow) → IsInOrder rows → None ≡ so_far rows 1
none_first [] up = refl
none_first (first ∷ rows) up = rw (is_new (first ∷ rows) up first 0 (omega arith) (λ some. absurd (omega arith))) refl

module _ (rows : List OrderRow) (i : ℕ) (d : OrderRow) (within : i < length rows) where
  -- those so far, and this row if it is one
  abbrev with_it : Bool → List OrderRow
  with_it again = filter (is_repeated rows) (take i rows) ++ cond again (get_or rows i d ∷ []) []

  pub one_new : is_repeated rows (get_or rows i d) ≡ false → so_far rows (i + 1) ≡ so_far rows i
  one_new new =
      ap (least_by place_of) (filter_more (is_repeated rows) rows i d within ∙ ap with_it new ∙ append-nil (filter (is_repeated rows) (take i rows)))

  pub one_again : is_repeated rows (get_or rows i d) ≡ true → so_far rows (i + 1) ≡ least_by place_of (option_to_list (so_far rows i) ++ get_or rows i d ∷ [])
  one_again again =
      ap (least_by place_of) (filter_more (is_repeated rows) rows i d within ∙ ap with_it again)
      ∙ best_by-append _ (IsStrictWeakOrder-by_number place_of) _ (get_or rows i d ∷ []) ∙ with_one (so_far rows i)
    where
      with_one : (o : Option OrderRow)
          → better_option _ (IsStrictWeakOrder-by_number place_of) o (Some (get_or rows i d)) ≡ least_by place_of (option_to_list o ++ get_or rows i d ∷ [])
      with_one None = refl
      with_one (Some row) = refl

-- references that rise repeat none
pub none_repeated : (rows : List OrderRow) → AllPairs (λ x y. x.order_no < y.order_no) rows → first_repeated rows ≡ None
none_repeated rows up = ap (least_by place_of) (none_pass (is_repeated rows) rows (λ k d within.
    is_new rows (in_order_from_rising rows up) d k within (λ some same. absurd (omega (arith, same, up (k - 1) k d (omega arith) within)))))
  where
    none_pass : (p : OrderRow → Bool) (xs : List OrderRow) → ((k : ℕ) (d : OrderRow) → k < length xs → p (get_or xs k d) ≡ false) → filter p xs ≡ []
    none_pass p [] h = refl
    none_pass p (x ∷ xs) h = rw (h 0 x (omega arith)) (none_pass p xs (λ k d l. h (suc k) d (omega arith)))

-- the same rows in another order have the same first repeated row
pub repeated_as_given : (rows sorted : List OrderRow) → IsDistinct eqb (map place_of rows) → IsPermutation rows sorted
    → first_repeated sorted ≡ first_repeated rows
repeated_as_given rows sorted distinct h =
    sym (λ i. least_by place_of (filter (λ row. list_any-IsPermutation (repeats row) rows sorted h i) sorted))
    ∙ sym (least_by-permutation place_of _ _ (TellsApart-filter place_of (is_repeated rows) rows (TellsApart-from_distinct place_of rows distinct))
    (IsPermutation-filter (is_repeated rows) rows sorted h))

pub distinct_as_given : (rows sorted : List OrderRow) → IsPermutation rows sorted → IsDistinct eqb (map place_of rows) → IsDistinct eqb (map place_of sorted)
distinct_as_given rows sorted h =
    IsDistinct-IsPermutation eqb nat_eq_equiv.symm (map place_of rows) (map place_of sorted) (IsPermutation-map place_of rows sorted h)
