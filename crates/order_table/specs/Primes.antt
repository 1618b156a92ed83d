-- Prime numbers.
-- To be believed of a crate used by itself: no answer hangs on the number of partitions.
use Rattle.std.specs.Prelude.{◌≡◌, ℕ, ◌%◌, ◌<◌}

-- a number above 1 that none divides but 1 and itself
pub record IsPrime (number : ℕ) : Type 0 where
  pub above : 1 < number
  pub undivided : (divisor : ℕ) → 1 < divisor → divisor < number → number % divisor ≡ 0 → ⊥
