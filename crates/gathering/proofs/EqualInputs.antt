-- Lists of equal inputs have equal inputs at each index, their first ones are equal lists, and a list is equal to itself. For who implements a work or
-- stands on a gathering.
use Rattle.std.specs.Prelude.{◌≡◌, ℕ, zero, suc, Bool, true, List, Option, [], ◌∷◌, Some, None, slice_get, take, refl}
use Rattle.std.proofs.Common.{◌∙◌}
use Rattle.std.proofs.lemmas.Bool.{and_parts}
use Rattle.std.specs.Option.{option_eq}
use Rattle.std.specs.Cmp.{IsEquivalence}
use Rattle.std.specs.Cmp.Derive.Mapped.{pointwise-map}
use Rattle.std.specs.Cmp.Lexicographic.{lists_equiv, options_equiv}
use Rattle.gathering.specs.Adding.{same_inputs}
use Rattle.gathering.specs.Views.{PieceView, belongs}

module _ {A : Type 0} (eq : A → A → Bool) where
  -- lists of equal inputs are equal at one index
  same_at : (xs ys : List A) (i : ℕ) → same_inputs eq xs ys ≡ true → option_eq eq (slice_get xs i) (slice_get ys i) ≡ true
  same_at [] [] i h = refl
  same_at [] (b ∷ ys) i h = cc
  same_at (a ∷ xs) [] i h = cc
  same_at (a ∷ xs) (b ∷ ys) zero h = (and_parts (eq a b) _ h).0
  same_at (a ∷ xs) (b ∷ ys) (suc i) h = same_at xs ys i (and_parts (eq a b) _ h).1

  -- the first n of lists of equal inputs are equal
  pub same-take : (n : ℕ) (xs ys : List A) → same_inputs eq xs ys ≡ true → same_inputs eq (take n xs) (take n ys) ≡ true
  same-take zero xs ys h = refl
  same-take (suc n) [] [] h = refl
  same-take (suc n) [] (y ∷ ys) h = cc
  same-take (suc n) (x ∷ xs) [] h = cc
  same-take (suc n) (x ∷ xs) (y ∷ ys) h = let parts = and_parts (eq x y) _ h in rw parts.0 (same-take n xs ys parts.1)

  module _ (laws : IsEquivalence eq) where
    -- a list of inputs is the same as itself
    pub same_inputs-itself : (xs : List A) → same_inputs eq xs xs ≡ true
    same_inputs-itself = (lists_equiv laws).refl

    -- the same pieces belong to equal lists
    pub belongs_as : (xs ys : List A) (p : PieceView A) → same_inputs eq xs ys ≡ true → belongs eq xs p ≡ belongs eq ys p
    belongs_as xs ys p same = let options = options_equiv laws in
        options.symm (Some p.input) _ ∙ options.congr _ _ (Some p.input) (same_at xs ys p.number same) ∙ options.symm _ (Some p.input)

  matched : (a : A) (o : Option A) → option_eq eq (Some a) o ≡ true → (x : A) × (o ≡ Some x) × (eq a x ≡ true)
  matched a None h = cc
  matched a (Some x) h = (x, refl, h)

  -- the input of its number, which is equal to its own
  pub own_input : (xs : List A) (p : PieceView A) → belongs eq xs p ≡ true → (x : A) × (slice_get xs p.number ≡ Some x) × (eq p.input x ≡ true)
  own_input xs p h = matched p.input (slice_get xs p.number) h

pub ruleset mapped = (pointwise-map)
