-- What contracts see of a piece and of a gathering.
-- To be believed of a crate used by itself.
use Rattle.std.specs.Prelude.{◌≡◌, ℕ, ◌<◌, List, Bool, true, false, Some, length, slice_get, refl}
use Rattle.std.specs.Option.{option_eq}
use Rattle.std.specs.Ordering.{nat_cmp}
use Rattle.std.specs.FinSet.{FinSet, contains}
use Rattle.std.specs.FinSet as set
use Rattle.std.specs.Coded.{Coded, code_by, coded×, coded_ℕ, coded_list}
use Rattle.gathering.specs.Adding.{same_inputs}

-- the number of a task, and the input that it was run on
pub record PieceView (A : Type 0) : Type 0 where
  pub number : ℕ
  pub input : A

-- the inputs of all tasks, in order, and the tasks that are covered
pub record GatheringView (A : Type 0) : Type 0 where
  pub inputs : List A
  pub covered : FinSet nat_cmp

module _ {A : Type 0} where
  -- gatherings can be told apart by their inputs and sets (for the model alone)
  abbrev pub gathering_code : Coded A → Coded (GatheringView A)
  gathering_code a = code_by (List A × FinSet nat_cmp) (coded× (coded_list a) (set.code coded_ℕ))
      (λ g. (g.inputs, g.covered)) (λ q. record { inputs = q.0; covered = q.1 }) (λ _. refl)

  -- the piece was run on an input that is equal to the one at its number in the list
  abbrev pub belongs : (A → A → Bool) → List A → PieceView A → Bool
  belongs eq inputs piece = option_eq eq (Some piece.input) (slice_get inputs piece.number)

  -- each task is covered
  abbrev pub IsComplete : GatheringView A → Type 0
  IsComplete g = (t : ℕ) → t < length g.inputs → contains g.covered t ≡ true

  -- the least task that is not covered
  pub record IsFirstMissing (g : GatheringView A) (t : ℕ) : Type 0 where
    pub in_range : t < length g.inputs
    pub missing : contains g.covered t ≡ false
    pub least : (u : ℕ) → u < t → contains g.covered u ≡ true

  -- what merging leaves: the inputs of the first, and the tasks that either covers
  abbrev pub merged : GatheringView A → GatheringView A → GatheringView A
  merged a b = record a { covered = set.union a.covered b.covered }

  -- the inputs of both are equal one by one, and both cover the same tasks
  pub record AreAlike (eq : A → A → Bool) (a b : GatheringView A) : Type 0 where
    pub inputs : same_inputs eq a.inputs b.inputs ≡ true
    pub covered : a.covered ≡ b.covered
