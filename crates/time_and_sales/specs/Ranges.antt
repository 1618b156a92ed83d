-- Ranges of numbers.
-- To be believed of a crate used by itself: clauses on a text that is made in ranges are in these words.
use Rattle.std.specs.Prelude.{ℕ, Bool, true, false, not, ◌&&◌, nat_lt, max, List, [], ◌∷◌, Vec, Option, Some, None}
use Rattle.std.specs.List.{flat_map}

-- the items of all vectors, vector by vector
abbrev pub all_items : {X A : Type 0} → List (Vec X A) → List X
all_items {X} {A} vectors = flat_map (λ (one : Vec X A). one.items) vectors

-- the number of an item is in the first range: from the first bound on, and below the second, if there is one
abbrev pub is_in_first : {X : Type 0} → (X → ℕ) → List ℕ → X → Bool
is_in_first number [] x = false
is_in_first number (low ∷ []) x = not (nat_lt (number x) low)
is_in_first number (low ∷ high ∷ bounds) x = not (nat_lt (number x) low) && nat_lt (number x) high

-- the number of an item is greater than the last one; there may be none yet
abbrev pub is_behind : {X : Type 0} → (X → ℕ) → Option ℕ → X → Bool
is_behind number None x = true
is_behind number (Some last) x = nat_lt last (number x)

-- the greatest number so far, for each of the numbers in turn
abbrev pub greatest_so_far : ℕ → List ℕ → List ℕ
greatest_so_far bound [] = []
greatest_so_far bound (number ∷ numbers) = max bound number ∷ greatest_so_far (max bound number) numbers
