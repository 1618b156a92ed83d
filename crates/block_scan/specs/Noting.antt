-- What the word of a watch is a sign of.
-- Derived: it is used inside proofs, and the clauses of `Watch` say what follows from it.
use Rattle.std.specs.Prelude.{◌≡◌, ℕ, true, List, [], ◌∷◌}
use Rattle.logbook.specs.Pages.{Book, Cell, Named, Step, View}

--
-- A history has the source that is read, and behind it the source once more for the failure that was noted first.

-- 1 if a failure was noted
abbrev pub word_of : {S : Type 0} → List S → ℕ
word_of [] = 0
word_of (_ ∷ []) = 0
word_of (_ ∷ _ ∷ _) = 1

-- if a failure was noted, a reading of the source failed
abbrev pub HasFailed : {S : Type 0} → (S → ℕ → Type 0) → List S → Type 0
HasFailed FailsAt [] = ⊥
HasFailed FailsAt (_ ∷ []) = Unit {0}
HasFailed FailsAt (source ∷ _ ∷ _) = (place : ℕ) × FailsAt source place

module _ {S : Type 0} (FailsAt : S → ℕ → Type 0) where
  -- the word is 1 if and only if a failure was noted
  pub record IsKept (cells : List Cell) (log : List S) : Type 0 where
    pub words : cells ≡ (word_of log, true) ∷ []
    pub failed : HasFailed FailsAt log

  -- a look at the word: the history so far is seen
  abbrev pub Looks : {A : Type 0} → Step S → View S A → ℕ → View S A → Type 0
  Looks step before found after = (found ≡ word_of after.0) × HasFailed FailsAt after.0

-- a failure is noted, and that is seen
abbrev pub Notes : {S A : Type 0} → Step S → View S A → ℕ → View S A → Type 0
Notes step before found after = word_of after.0 ≡ 1

-- the word of this history
abbrev pub word_in : Book → Named
word_in book = record { tracked = true; key = 0; book = book }

-- a watch that has no name yet: over which source, and which history is its own
pub record NewWatchView (S : Type 0) : Type 0 where
  pub source : S
  pub book : Book
