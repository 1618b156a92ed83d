-- The lines of bars in ranges of locates: what each range has, and that all ranges have all lines.
use Rattle.std.proofs.Common.{◌≡◌, ◌<◌, ◌≤◌, ℕ, Bool, ◌&&◌, zero, suc, not, ltb, false, true, All, List, [], ◌∷◌, ◌++◌, length, drop, filter, flat_map, get_or, max}
use Rattle.std.proofs.Common.{refl, sym, ap, ap₂, ◌∙◌, arith, inl, inr, append-nil}
use Rattle.std.specs.List.Sorted.{IsNonDecreasingBy}
use Rattle.std.proofs.lemmas.Bool.{cases_Bool, le-ltb, ltb-false}
use Rattle.std.proofs.lemmas.List.Concat.{flat_map-append}
use Rattle.time_and_sales.specs.Ranges.{greatest_so_far, is_in_first}
use Rattle.time_and_sales.proofs.InRanges.{all_pass, none_pass}
use Rattle.bar.specs.declared.bar.Bar.{Bar}
use Rattle.bars.specs.Bars.{IsByKey}
use Rattle.bars.specs.Texts.{bar_line, lines_text}
use Rattle.bar_lines.specs.BarParts.{range_texts}
use Rattle.bar_lines.proofs.BarsInRanges.{locate_of, locates_rise}

module _ (name : ℕ → List ℕ) (bars : List Bar) where
  pub count_of_texts : (bounds : List ℕ) → length (range_texts name bars bounds) ≡ length bounds
  count_of_texts [] = refl
  count_of_texts (low ∷ bounds) = ap suc (count_of_texts bounds)

  pub text_at : (bounds : List ℕ) (n : ℕ) → n < length bounds
      → get_or (range_texts name bars bounds) n [] ≡ lines_text name (filter (is_in_first locate_of (drop n bounds)) bars)
  text_at [] n within = absurd (omega arith)
  text_at (low ∷ bounds) zero within = refl
  text_at (low ∷ bounds) (suc n) within = text_at bounds n (omega arith)

and_no : (a b : Bool) → b ≡ false → (a && b) ≡ false
and_no true b e = e
and_no false b e = refl

-- the part of a table of texts
module _ (name : ℕ → List ℕ) (bars : List Bar) (bounds : List ℕ) (texts : List (List ℕ)) (part : ℕ) (is : range_texts name bars bounds ≡ texts)
    (within : part < length texts) where
  pub part_within : part < length bounds
  part_within = omega (arith, within, ap length is, count_of_texts name bars bounds)

  pub text_of_part : lines_text name (filter (is_in_first locate_of (drop part bounds)) bars) ≡ get_or texts part []
  text_of_part = sym (text_at name bars bounds part part_within) ∙ ap (λ t. get_or t part []) is

-- what is from a bound on is in the first range, or from the next bound on
from_bound : (low high : ℕ) (bounds : List ℕ) (bars : List Bar) → low ≤ high → IsNonDecreasingBy locate_of bars
    → filter (is_in_first locate_of (low ∷ high ∷ bounds)) bars ++ filter (λ b. not (ltb (locate_of b) high)) bars
    ≡ filter (λ b. not (ltb (locate_of b) low)) bars
from_bound low high bounds [] le up = refl
from_bound low high bounds (x ∷ xs) le up = elim (cases_Bool (ltb x.locate high)) [
  | inl below ↦ (let more = from_bound low high bounds xs le (λ i j d h lt. up (suc i) (suc j) d (omega arith) (omega arith)) in
      elim (cases_Bool (ltb x.locate low)) [
        | inl lower ↦ rw (below, lower) more
        | inr here ↦ rw (below, here) (ap (λ l. x ∷ l) more)
      ])
  | inr past ↦ (let behind : All (λ y. ltb (locate_of y) high ≡ false) xs =
      λ k d h. le-ltb _ _ (omega (arith, ltb-false _ _ past, up 0 (suc k) d (omega arith) (omega arith))) in
      let here : ltb x.locate low ≡ false = le-ltb _ _ (omega (arith, ltb-false _ _ past)) in
      let first : All (λ y. is_in_first locate_of (low ∷ high ∷ bounds) y ≡ false) xs = λ k d h. and_no _ _ (behind k d h) in
      let second : All (λ y. not (ltb (locate_of y) high) ≡ true) xs = λ k d h. ap not (behind k d h) in
      let both : All (λ y. not (ltb (locate_of y) low) ≡ true) xs = λ k d h. ap not (le-ltb _ _ (omega (arith, ltb-false _ _ (behind k d h)))) in
      rw (past, here)
      (ap₂ (λ l m. l ++ x ∷ m) (none_pass (is_in_first locate_of (low ∷ high ∷ bounds)) xs first) (all_pass (λ b. not (ltb (locate_of b) high)) xs second)
      ∙ ap (λ l. x ∷ l) (sym (all_pass (λ b. not (ltb (locate_of b) low)) xs both))))
]

module _ (name : ℕ → List ℕ) (bars : List Bar) (up : IsNonDecreasingBy locate_of bars) where
  texts_from : (low : ℕ) (numbers : List ℕ)
      → flat_map (λ (t : List ℕ). t) (range_texts name bars (low ∷ greatest_so_far low numbers)) ≡ lines_text name (filter (λ b. not (ltb (locate_of b) low)) bars)
  texts_from low [] = append-nil (lines_text name (filter (is_in_first locate_of (low ∷ [])) bars))
  texts_from low (n ∷ numbers) =
      let high = max low n in
      let first = filter (is_in_first locate_of (low ∷ high ∷ greatest_so_far high numbers)) bars in
      ap (λ l. lines_text name first ++ l) (texts_from high numbers)
      ∙ sym (flat_map-append (λ (b : Bar). bar_line b (name b.locate)) first (filter (λ b. not (ltb (locate_of b) high)) bars))
      ∙ ap (lines_text name) (from_bound low high (greatest_so_far high numbers) bars (omega arith) up)

-- the texts of all ranges, one after another, are the text of all
pub texts_are_whole : (name : ℕ → List ℕ) (bars : List Bar) (numbers bounds : List ℕ) → IsByKey bars → bounds ≡ 0 ∷ greatest_so_far 0 numbers
    → flat_map (λ (t : List ℕ). t) (range_texts name bars bounds) ≡ lines_text name bars
texts_are_whole name bars numbers bounds up is =
    ap (λ b. flat_map (λ (t : List ℕ). t) (range_texts name bars b)) is ∙ texts_from name bars (locates_rise bars up) 0 numbers
    ∙ ap (lines_text name) (all_pass (λ b. not (ltb (locate_of b) 0)) bars (λ k d h. ap not (le-ltb _ _ (omega arith))))
