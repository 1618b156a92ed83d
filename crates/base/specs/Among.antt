-- Which numbers a list has.
-- To be believed.
use Rattle.std.specs.Prelude.{◌≡◌, ◌<◌, ℕ, ◌==◌, Bool, ◌||◌, List, All}
use Rattle.std.specs.List.{list_any}

-- whether the number is one of the list's
abbrev pub is_among : List ℕ → ℕ → Bool
is_among numbers wanted = list_any (λ number. number == wanted) numbers

-- the numbers of the second list are those of the first
abbrev pub HasNumbersOf : List ℕ → List ℕ → Type 0
HasNumbersOf rows numbers = (number : ℕ) → is_among numbers number ≡ is_among rows number

-- the numbers of the third list are those of the first and of the second
abbrev pub IsUnion : List ℕ → List ℕ → List ℕ → Type 0
IsUnion one other both = (number : ℕ) → is_among both number ≡ (is_among one number || is_among other number)

-- each number of a list is a byte
abbrev pub AreBytes : List ℕ → Type 0
AreBytes bytes = All (λ byte. byte < 256) bytes
