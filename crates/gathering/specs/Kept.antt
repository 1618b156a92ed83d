-- How a gathering keeps its pieces: a total of the first inputs, and from there on one place a task.
-- Derived: it follows the code, and contracts see the set of the covered tasks, which begins empty.
use Rattle.std.specs.Prelude.{◌≡◌, ℕ, ◌≤◌, List, Bool, true, ◌||◌, nat_lt, Option, Some, None, length, take, get_or, is_some}
use Rattle.std.specs.List.{range_with_len}
use Rattle.std.specs.Ordering.{nat_cmp}
use Rattle.std.specs.FinSet as set
use Rattle.gathering.specs.Views.{PieceView, belongs}

-- the numbers below p, and the places that hold something
abbrev pub covered_tasks : {X : Type 0} → ℕ → List (Option X) → set.FinSet nat_cmp
covered_tasks p places =
    set.retain (set.from_list (range_with_len 0 (length places))) (λ k. nat_lt k p || is_some (get_or places k None))

-- there is a place for each input, and the total is that of the first p inputs; a piece stands from there on, in the
-- place of its number, and its input is equal to that one
pub record IsFolded {A C : Type 0} (eq : A → A → Bool) (IsTotalOf : List A → C → Type 0) (inputs : List A)
    (p : ℕ) (total : C) (places : List (Option (PieceView A))) : Type 0 where
  pub one_each : length places ≡ length inputs
  pub within : p ≤ length inputs
  pub total_is : IsTotalOf (take p inputs) total
  pub pieces : (k : ℕ) (piece : PieceView A) → get_or places k None ≡ Some piece
      → (p ≤ k) × (piece.number ≡ k) × (belongs eq inputs piece ≡ true)
