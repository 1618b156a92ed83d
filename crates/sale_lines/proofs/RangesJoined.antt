-- Items in ranges of numbers: the texts of all ranges are the text of the whole.
use Rattle.std.proofs.Common.{◌≡◌, ℕ, zero, suc, ◌+◌, ◌-◌, ◌<◌, ◌≤◌, Bool, true, false, not, ◌&&◌, ltb, All, List, [], ◌∷◌, ◌++◌, length, max, take, drop}
use Rattle.std.proofs.Common.{get_or, filter, refl, sym, ap, ap₂, ◌∙◌, arith, inl, inr, flat_map}
use Rattle.std.specs.List.Sorted.{IsNonDecreasingBy}
use Rattle.std.proofs.lemmas.Bool.{cases_Bool, le-ltb, ltb-false}
use Rattle.std.proofs.lemmas.Bool.Decides.{nat_tests}
use Rattle.std.proofs.lemmas.List.{append-nil}
use Rattle.std.proofs.lemmas.List.{take_rest}
use Rattle.std.proofs.lemmas.List.Concat.{flat_map-append}
use Rattle.std.proofs.lemmas.List.Kept.{IsNonDecreasingBy-filter}
use Rattle.base.proofs.Lists.{filter_of_filter}
use Rattle.time_and_sales.specs.Ranges.{greatest_so_far, is_in_first}
use Rattle.time_and_sales.proofs.InRanges.{all_pass, filter_both, none_pass}
use Rattle.sale_lines.specs.SaleParts.{texts_of_ranges}

-- ---- the ranges together

not_lower : (low high n : ℕ) → low ≤ high → not (ltb n high) ≡ true → not (ltb n low) ≡ true
not_lower low high n le h = grind (arith, nat_tests)

module _ {X : Type 0} (number : X → ℕ) where
  abbrev from : ℕ → X → Bool
  from low x = not (ltb (number x) low)

  abbrev below : ℕ → X → Bool
  below high x = ltb (number x) high

  -- what is below a bound, and then what is from it on
  halves : (bound : ℕ) (xs : List X) → IsNonDecreasingBy number xs → filter (below bound) xs ++ filter (from bound) xs ≡ xs
  halves bound [] up = refl
  halves bound (x ∷ xs) up = elim (cases_Bool (below bound x)) [
    | inl e ↦ (rw e (ap (λ l. x ∷ l) (halves bound xs (λ i j d le lt. up (suc i) (suc j) d (omega arith) (omega arith)))))
    | inr e ↦ (let high : All (λ y. below bound y ≡ false) xs =
        λ k d l. le-ltb _ _ (omega (arith, ltb-false _ _ e, up 0 (suc k) d (omega arith) (omega arith))) in
        rw e (ap₂ (λ l m. l ++ x ∷ m) (none_pass (below bound) xs high) (all_pass (from bound) xs (λ k d l. ap not (high k d l)))))
  ]

  -- what is from a bound on is what is below the next bound, and then what is from that one on
  split : (low high : ℕ) (xs : List X) → low ≤ high → IsNonDecreasingBy number xs
      → filter (λ x. from low x && below high x) xs ++ filter (from high) xs ≡ filter (from low) xs
  split low high xs le up =
      sym (ap₂ ◌++◌ (filter_both (below high) (from low) xs) (filter_of_filter (from high) (from low) (λ x. not_lower low high (number x) le) xs))
      ∙ halves high (filter (from low) xs) (IsNonDecreasingBy-filter number (from low) xs up)

-- ---- the texts of the ranges

module _ {X : Type 0} (number : X → ℕ) (line : X → List ℕ) (xs : List X) where
  pub length_texts : (bounds : List ℕ) → length (texts_of_ranges number line xs bounds) ≡ length bounds
  length_texts [] = refl
  length_texts (low ∷ bounds) = ap suc (length_texts bounds)

  text_of_range : (bounds : List ℕ) (n : ℕ) → n < length bounds
      → get_or (texts_of_ranges number line xs bounds) n [] ≡ flat_map line (filter (is_in_first number (drop n bounds)) xs)
  text_of_range [] n h = absurd (omega (arith, h))
  text_of_range (low ∷ bounds) zero h = refl
  text_of_range (low ∷ bounds) (suc n) h = text_of_range bounds n (omega (arith, h))

  -- the text of a part, by the bounds from its own on
  pub text_of_part : (bounds slice : List ℕ) (part : ℕ) (texts : List (List ℕ)) → slice ≡ bounds → texts_of_ranges number line xs bounds ≡ texts
      → part < length texts → get_or texts part [] ≡ flat_map line (filter (is_in_first number (take (length slice - part) (drop part slice))) xs)
  text_of_part bounds slice part texts same are within =
      ap (λ l. get_or l part []) (sym are)
      ∙ text_of_range bounds part (omega (arith, length_texts bounds, ap length are, within))
      ∙ ap (λ b. flat_map line (filter (is_in_first number b) xs)) (ap (drop part) (sym same) ∙ sym (take_rest slice part))

  texts_from : (low : ℕ) (numbers : List ℕ) → IsNonDecreasingBy number xs
      → flat_map (λ (text : List ℕ). text) (texts_of_ranges number line xs (low ∷ greatest_so_far low numbers)) ≡ flat_map line (filter (from number low) xs)
  texts_from low [] up = append-nil (flat_map line (filter (from number low) xs))
  texts_from low (n ∷ numbers) up =
      let high = max low n in
      let first = flat_map line (filter (is_in_first number (low ∷ high ∷ [])) xs) in
      ap (λ l. first ++ l) (texts_from high numbers up) ∙ sym (flat_map-append line _ _) ∙ ap (flat_map line) (split number low high xs (omega arith) up)

  -- the texts of the ranges, one after another, are the text of all
  pub texts_of_all : (numbers : List ℕ) → IsNonDecreasingBy number xs
      → flat_map (λ (text : List ℕ). text) (texts_of_ranges number line xs (0 ∷ greatest_so_far 0 numbers)) ≡ flat_map line xs
  texts_of_all numbers up = texts_from 0 numbers up ∙ ap (flat_map line) (all_pass (from number 0) xs (λ k d h. ap not (le-ltb _ _ (omega arith))))
