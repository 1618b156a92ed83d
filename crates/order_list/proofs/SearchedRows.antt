-- Lean rows whose references rise, and the rows that they stand for: what a search in them finds.
use Rattle.std.proofs.Common.{◌≡◌, ℕ, zero, suc, ◌+◌, ◌-◌, ◌<◌, ◌≤◌, eqb, List, [], ◌∷◌, ◌++◌, length, get_or, map, arith, refl, subst}
use Rattle.std.proofs.Common.{None, Some, inl, inr, option_map}
use Rattle.std.specs.List.{All, AllPairs, find}
use Rattle.std.proofs.lemmas.Bool.{cases_Bool, cond_both, eqb-true}
use Rattle.std.proofs.lemmas.Bool.Decides.{nat_tests}
use Rattle.std.proofs.lemmas.List.{length-map}
use Rattle.std.proofs.lemmas.List.Elements.{All-push, All-weaker}
use Rattle.std.proofs.lemmas.List.Quantifiers.{all_pairs_push}
use Rattle.row_types.specs.declared.order.OrderRow.{OrderRow}
use Rattle.order_table.proofs.RowsInOrder.{rising_does_not_fall}
use Rattle.order_list.specs.ShortRows.{RiseTo, offset_of, row_of_lean}
use Rattle.order_list.specs.declared.lean.Lean.{Lean}
use Rattle.order_list.specs.declared.offsets.Origin.{Origin}

abbrev pub none : Lean
none = record { low = record { bytes = [] }; price_high = 0 }

-- the reference of a row counts from the origin
same_number : (origin : Origin) (rows : List Lean) (i : ℕ) (d : OrderRow) (e : Lean) → i < length rows
    → (get_or (map (row_of_lean origin) rows) i d).order_no ≡ origin.order_no + offset_of (get_or rows i e)
same_number origin [] i d e within = absurd (omega (arith, within))
same_number origin (row ∷ rows) zero d e within = refl
same_number origin (row ∷ rows) (suc i) d e within = same_number origin rows i d e (omega (arith, within))

-- no row has a reference below the origin's
pub none_below : (origin : Origin) (rows : List Lean) (q : ℕ) → q < origin.order_no
    → None ≡ find (λ (row : OrderRow). eqb row.order_no q) (map (row_of_lean origin) rows)
none_below origin [] q below = refl
none_below origin (row ∷ rows) q below =
    cond_both (eqb (origin.order_no + offset_of row) q) (Some (row_of_lean origin row))
    (find (λ (other : OrderRow). eqb other.order_no q) (map (row_of_lean origin) rows)) (λ found. None ≡ found)
    (λ e. absurd (omega (arith, eqb-true _ _ e, below))) (λ _. none_below origin rows q below)

same_test : (base r q : ℕ) → base ≤ q → eqb (base + r) q ≡ eqb r (q - base)
same_test base r q above = grind (arith, nat_tests)

-- what has the reference stands for what gives it
pub find_wide : (origin : Origin) (rows : List Lean) (q : ℕ) → origin.order_no ≤ q
    → option_map (row_of_lean origin) (find (λ (row : Lean). eqb (offset_of row) (q - origin.order_no)) rows)
    ≡ find (λ (row : OrderRow). eqb row.order_no q) (map (row_of_lean origin) rows)
find_wide origin [] q above = refl
find_wide origin (row ∷ rows) q above =
    let more = find_wide origin rows q above in
    let same = same_test origin.order_no (offset_of row) q above in
    elim (cases_Bool (eqb (offset_of row) (q - origin.order_no))) [
      | inl e ↦ (rw same (rw e refl))
      | inr e ↦ (rw same (rw e more))
    ]

module _ (origin : Origin) (rows : List Lean) (up : AllPairs (λ x y. offset_of x < offset_of y) rows) where
  abbrev wide : List OrderRow
  wide = map (row_of_lean origin) rows

  within : (i : ℕ) → i < length wide → i < length rows
  within i l = subst (λ n. i < n) (length-map rows (row_of_lean origin)) l

  pub rising_wide : AllPairs (λ x y. x.order_no < y.order_no) wide
  rising_wide i j d p q =
      let inside = within j q in
      omega (arith, same_number origin rows i d none (omega (arith, p, inside)), same_number origin rows j d none inside, up i j none p inside)

  not_falling : (i j : ℕ) (d : Lean) → i ≤ j → j < length rows → offset_of (get_or rows i d) ≤ offset_of (get_or rows j d)
  not_falling = rising_does_not_fall offset_of rows up

  pub least_wide : (d : Lean) → 0 < length rows → All (λ row. origin.order_no + offset_of (get_or rows 0 d) ≤ row.order_no) wide
  least_wide d some i e l =
      omega (arith, same_number origin rows i e d (within i l), not_falling 0 i d (omega arith) (within i l))

  pub greatest_wide : (d : Lean) → 0 < length rows → All (λ row. row.order_no ≤ origin.order_no + offset_of (get_or rows (length rows - 1) d)) wide
  greatest_wide d some i e l =
      omega (
        arith,
        same_number origin rows i e d (within i l),
        not_falling i (length rows - 1) d (omega (arith, within i l)) (omega (arith, some)),
      )

-- one row more, above all
pub rise_more : (rows : List Lean) (row : Lean) (above : ℕ) → RiseTo above rows → above ≤ offset_of row
    → RiseTo (offset_of row + 1) (rows ++ row ∷ [])
rise_more rows row above up higher = record {
  rise = all_pairs_push (λ x y. offset_of x < offset_of y) rows row up.rise (λ k e l. omega (arith, up.below k e l, higher));
  below = All-push (λ x. offset_of x < offset_of row + 1) rows row
      (All-weaker (λ x. offset_of x < above) (λ x. offset_of x < offset_of row + 1) (λ x below. omega (arith, below, higher)) rows up.below)
      (omega arith);
}
