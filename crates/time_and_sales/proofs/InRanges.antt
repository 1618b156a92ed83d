-- Items in ranges of numbers: what a search finds, what is in the first range, and what is behind a number.
use Rattle.std.proofs.Common.{◌≡◌, ℕ, suc, ◌+◌, ◌-◌, ◌<◌, ◌≤◌, Bool, true, false, not, ◌&&◌, ltb, All, List, [], ◌∷◌, length, max, take, drop}
use Rattle.std.proofs.Common.{get_or, filter, leb, Some, None, refl, sym, ap, arith, rules, length-drop}
use Rattle.std.specs.List.Sorted.{IsPartitionPoint}
use Rattle.std.proofs.lemmas.Bool.Decides.{nat_tests}
use Rattle.std.proofs.lemmas.List.{append-nil, get_or-drop, get_or-take}
use Rattle.std.proofs.lemmas.List.{length-take-le, take-append-drop}
use Rattle.std.proofs.lemmas.List.Elements.{filter-append, All-head, All-tail}
use Rattle.time_and_sales.specs.Ranges.{greatest_so_far, is_behind, is_in_first}

-- ---- what a search finds

module _ {X : Type 0} (p : X → Bool) where
  pub all_pass : (xs : List X) → All (λ x. p x ≡ true) xs → filter p xs ≡ xs
  all_pass [] h = refl
  all_pass (x ∷ xs) h = rw (All-head (λ z. p z ≡ true) x xs h) (ap (λ l. x ∷ l) (all_pass xs (All-tail (λ z. p z ≡ true) x xs h)))

  pub none_pass : (xs : List X) → All (λ x. p x ≡ false) xs → filter p xs ≡ []
  none_pass [] h = refl
  none_pass (x ∷ xs) h = rw (All-head (λ z. p z ≡ false) x xs h) (none_pass xs (All-tail (λ z. p z ≡ false) x xs h))

module _ {X : Type 0} (p : X → Bool) (xs : List X) (i : ℕ) (within : i ≤ length xs)
    (at : IsPartitionPoint (λ y. p y ≡ true) (λ y. p y ≡ false) xs i) where
  front : All (λ y. p y ≡ true) (take i xs)
  front k d l = let n = length-take-le i xs within in rw (get_or-take i xs k d (omega (arith, n))) (at.0 k d (omega arith) (omega (arith, n)))

  back : All (λ y. p y ≡ false) (drop i xs)
  back k d l = let n = length-drop i xs in rw (get_or-drop i xs k d) (at.1 (i + k) d (omega arith) (omega (arith, n)))

  pub passing_front : take i xs ≡ filter p xs
  passing_front =
      let whole = filter-append p (take i xs) (drop i xs) in
      grind (arith, take-append-drop i xs, all_pass p (take i xs) front, none_pass p (drop i xs) back, append-nil)

  pub failing_back : drop i xs ≡ filter (λ y. not (p y)) xs
  failing_back =
      let fails : X → Bool = λ y. not (p y) in
      let none = none_pass fails (take i xs) (λ k d l. ap not (front k d l)) in
      let all = all_pass fails (drop i xs) (λ k d l. ap not (back k d l)) in
      grind (arith, take-append-drop i xs, filter-append fails (take i xs) (drop i xs))

pub filter_both : {X : Type 0} (p q : X → Bool) (xs : List X) → filter p (filter q xs) ≡ filter (λ x. q x && p x) xs
filter_both p q [] = refl
filter_both p q (x ∷ xs) = let more = filter_both p q xs in grind (arith, rules)

-- ---- the first range

-- two items of one number are in it both, or neither is
pub in_first_alike : {X Y : Type 0} (f : X → ℕ) (g : Y → ℕ) (bounds : List ℕ) (x : X) (y : Y) → f x ≡ g y → is_in_first f bounds x ≡ is_in_first g bounds y
in_first_alike f g [] x y e = refl
in_first_alike f g (low ∷ []) x y e = ap (is_in_first (λ (n : ℕ). n) (low ∷ [])) e
in_first_alike f g (low ∷ high ∷ bounds) x y e = ap (is_in_first (λ (n : ℕ). n) (low ∷ high ∷ bounds)) e

pub no_bound : {X : Type 0} (number : X → ℕ) (bounds : List ℕ) (xs : List X) → length bounds < 1 → filter (is_in_first number bounds) xs ≡ []
no_bound number [] xs h = none_pass (is_in_first number []) xs (λ k d l. refl)
no_bound number (low ∷ bounds) xs h = absurd (omega (arith, h))

pub two_bounds : {X : Type 0} (number : X → ℕ) (bounds : List ℕ) (xs : List X) → 2 ≤ length bounds
    → filter (λ x. ltb (number x) (get_or bounds 1 0)) (filter (λ x. not (ltb (number x) (get_or bounds 0 0))) xs) ≡ filter (is_in_first number bounds) xs
two_bounds number [] xs h = absurd (omega (arith, h))
two_bounds number (low ∷ []) xs h = absurd (omega (arith, h))
two_bounds number (low ∷ high ∷ bounds) xs h = filter_both (λ x. ltb (number x) high) (λ x. not (ltb (number x) low)) xs

-- the bounds of as many ranges as there are numbers, and one more
pub length-greatest_so_far : (bound : ℕ) (numbers : List ℕ) → length (greatest_so_far bound numbers) ≡ length numbers
length-greatest_so_far bound [] = refl
length-greatest_so_far bound (number ∷ numbers) = ap suc (length-greatest_so_far (max bound number) numbers)

-- ---- what is behind a number

same_filter : {X : Type 0} (p q : X → Bool) → ((x : X) → p x ≡ q x) → (xs : List X) → filter p xs ≡ filter q xs
same_filter p q same [] = refl
same_filter p q same (x ∷ xs) = let here = same x in let more = same_filter p q same xs in grind arith

module _ {X : Type 0} (number : X → ℕ) where
  -- what a search for the last number leaves
  pub above_is_behind : (last : ℕ) (xs : List X) → filter (λ x. not (leb (number x) last)) xs ≡ filter (is_behind number (Some last)) xs
  above_is_behind last = same_filter _ _ (λ x. grind (arith, nat_tests))

  pub all_behind_none : (xs : List X) → xs ≡ filter (is_behind number None) xs
  all_behind_none xs = sym (all_pass (is_behind number None) xs (λ k d l. refl))
