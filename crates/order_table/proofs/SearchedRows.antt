-- Rows whose references don't fall, and what a search finds that begins in a part of them.
use Rattle.std.proofs.Common.{◌≡◌, ◌≢◌, ℕ, suc, ◌-◌, ◌<◌, ◌≤◌, true, false, eqb, ltb, List, [], ◌∷◌, length, get_or, slice_get, Some, None}
use Rattle.std.proofs.Common.{⊎_elim, arith, ap, sym, ◌∙◌, refl}
use Rattle.std.specs.List.{AllWithin, find}
use Rattle.std.specs.List.Sorted.{IsNonDecreasingBy, IsPartitionPoint}
use Rattle.std.proofs.lemmas.Bool.{cases_lt, eq-eqb, le-ltb, lt-ltb, ltb-false, ltb-true, ne_eqb}
use Rattle.std.proofs.lemmas.List.{get_or_default}
use Rattle.std.proofs.lemmas.List.Folds.{find_at}
use Rattle.std.proofs.lemmas.List.Sums.{position_or_len_is}
use Rattle.std.proofs.lemmas.Option.{slice_get-get_or}

-- f is the reference of a row
module _ {X : Type 0} (f : X → ℕ) (rows : List X) (q : ℕ) where
  -- before the index are the rows of lesser references, from it on the others
  abbrev pub Point : ℕ → Type 0
  Point i = IsPartitionPoint (λ row. ltb (f row) q ≡ true) (λ row. ltb (f row) q ≡ false) rows i

  none_gives : (xs : List X) → ((k : ℕ) (d : X) → k < length xs → f (get_or xs k d) ≢ q) → find (λ row. eqb (f row) q) xs ≡ None
  none_gives [] differ = refl
  none_gives (row ∷ xs) differ = rw (ne_eqb (f row) q (differ 0 row (omega arith))) (none_gives xs (λ k d l. differ (suc k) d (omega (arith, l))))

  module _ (up : IsNonDecreasingBy f rows) where
    pub smaller_before : (i : ℕ) (row : X) → 0 < i → i < length rows → row ≡ get_or rows (i - 1) row → f row < q
        → AllWithin (λ row. ltb (f row) q ≡ true) rows 0 i
    smaller_before i row some within here less k d low below =
        let inside : i - 1 < length rows = omega (arith, within) in
        lt-ltb _ q (omega (arith, ap f (here ∙ get_or_default rows (i - 1) row d inside), up k (i - 1) d (omega (arith, below, some)) inside, less))

    pub others_behind : (i : ℕ) (row : X) → i < length rows → row ≡ get_or rows i row → q ≤ f row
        → AllWithin (λ row. ltb (f row) q ≡ false) rows i (length rows)
    others_behind i row within here more k d low below =
        le-ltb _ q (omega (arith, ap f (here ∙ get_or_default rows i row d within), up i k d low below, more))

    module _ (at : ℕ) (point : Point at) where
      less : (k : ℕ) (d : X) → k < at → f (get_or rows k d) ≢ q
      less k d below same = omega (arith, same, ltb-true _ _ (point.0 k d (omega arith) below))

      none_at : (at < length rows → (d : X) → f (get_or rows at d) ≢ q) → find (λ row. eqb (f row) q) rows ≡ None
      none_at differs = none_gives rows (λ k d within. ⊎_elim (less k d)
          (λ above same. differs (omega (arith, above, within)) d
          (omega (arith, same, up at k d above within, ltb-false _ _ (point.1 at d (omega arith) (omega (arith, above, within))))))
          (cases_lt k at))

      pub found_itself : (row : X) → at < length rows → row ≡ get_or rows at row → f row ≡ q → find (λ other. eqb (f other) q) rows ≡ Some row
      found_itself row within here same =
          let first = position_or_len_is (λ other. eqb (f other) q) rows at row (omega (arith, within)) (λ k below. ne_eqb _ _ (less k row below))
          (λ _. eq-eqb _ _ (ap f (sym here) ∙ same)) in
          find_at (λ other. eqb (f other) q) rows ∙ ap (slice_get rows) first ∙ slice_get-get_or rows at row within ∙ ap Some (sym here)

      pub found_another : (row : X) → at < length rows → row ≡ get_or rows at row → f row ≢ q → find (λ other. eqb (f other) q) rows ≡ None
      found_another row within here other = none_at (λ inside d same. other (ap f (here ∙ get_or_default rows at row d inside) ∙ same))

      pub found_none : length rows ≤ at → find (λ other. eqb (f other) q) rows ≡ None
      found_none past = none_at (λ inside d same. absurd (omega (arith, inside, past)))
