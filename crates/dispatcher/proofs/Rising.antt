-- A seat's claims rise, so a worker that claims until it finds no task ends: 2 * tasks - above claims falls at each claim that gives a task.
use Rattle.std.proofs.Common.{◌≡◌, ℕ, suc, ◌+◌, ◌-◌, ◌*◌, ◌<◌, ◌≤◌, List, [], ◌∷◌, ◌++◌, All, refl, arith}

-- one more than the last claim, or 0 before the first
abbrev pub above : List ℕ → ℕ
above [] = 0
above (c ∷ cs) = elim cs [ [] ↦ c + 1 | _ ∷ _ ↦ above cs ]

pub above_snoc : (xs : List ℕ) (c : ℕ) → above (xs ++ c ∷ []) ≡ c + 1
above_snoc [] c = refl
above_snoc (x ∷ []) c = refl
above_snoc (x ∷ y ∷ ys) c = above_snoc (y ∷ ys) c

pub above_le : (xs : List ℕ) (n : ℕ) → All (λ c. c < n) xs → above xs ≤ n
above_le [] n h = omega arith
above_le (x ∷ []) n h = let one = h 0 0 (omega arith) in omega arith
above_le (x ∷ y ∷ ys) n h = above_le (y ∷ ys) n (λ k d lt. h (suc k) d (omega arith))

-- the measure of a loop that claims
pub falls : (tasks : ℕ) (xs : List ℕ) (c : ℕ) → All (λ x. x < c) xs → c < 2 * tasks → 2 * tasks - above (xs ++ c ∷ []) < 2 * tasks - above xs
falls tasks xs c rises gives = let le = above_le xs c rises in let next = above_snoc xs c in omega arith
