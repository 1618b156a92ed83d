-- Adding an output to a total, over any work. Its inputs are `A`, its outputs `B`, its totals `C`.
-- To be believed of a crate used by itself.
use Rattle.std.specs.Prelude.{List, [], ◌∷◌, ◌++◌, Bool}
use Rattle.std.specs.Cmp.Lexicographic.{pointwise}

-- some admissible list begins with these inputs
abbrev pub StartsAdmissible : {A : Type 0} → (List A → Type 0) → List A → Type 0
StartsAdmissible {A} IsAdmissible xs = (rest : List A) × IsAdmissible (xs ++ rest)

module _ {A B C : Type 0} (Gives : A → B → Type 0) (IsTotalOf : List A → C → Type 0)
    (IsAdmissible : List A → Type 0) where
  -- the output may be added to the total: they belong to some inputs that an admissible list begins with
  pub record CanAdd (total : C) (output : B) : Type 0 where
    pub before : List A
    pub next : A
    pub total_is : IsTotalOf before total
    pub output_is : Gives next output
    pub admissible : StartsAdmissible IsAdmissible (before ++ next ∷ [])

  -- whichever inputs the total and the output belong to, the new total belongs to the total's inputs with the
  -- output's after them, if an admissible list begins with these
  abbrev pub AddsOutput : C → B → C → Type 0
  AddsOutput old output new =
      (before : List A) (next : A)
      → IsTotalOf before old
      → Gives next output
      → StartsAdmissible IsAdmissible (before ++ next ∷ [])
      → IsTotalOf (before ++ next ∷ []) new

-- two lists of inputs are as long and equal one by one
abbrev pub same_inputs : {A : Type 0} → (A → A → Bool) → List A → List A → Bool
same_inputs eq xs ys = pointwise eq xs ys
