-- What the words and all views have in common between any two steps, and what a step shows.
-- Derived: it is used inside proofs, and the contracts of the calls say what follows from it.
--
-- Word 0 is the number of claims that were made. Word t + 1 is 1 if task t is marked, else 0.
use Rattle.std.specs.Prelude.{◌≡◌, ◌⊎◌, ℕ, ◌+◌, ◌-◌, ◌*◌, ◌<◌, ◌≤◌, ◌==◌, min, nat_lt, nat_le, if◌then◌else◌, List, [], ◌∷◌, ◌++◌, length, slice_index, All, Contains, sum_by, count_by}
use Rattle.base.specs.declared.limits.TheConstants.{MOST_TASKS, MOST_SEATS}
use Rattle.atomic_table.specs.Table.{State, Me, Step}
use Rattle.dispatcher.specs.declared.rule.View.{View}
use Rattle.dispatcher.specs.declared.rule.Size.{Size}

-- how often x is in the list
abbrev pub occurrences : ℕ → List ℕ → ℕ
occurrences x xs = count_by (λ y. y == x) xs

-- 1 of a number below n, else 0
abbrev pub once_below : ℕ → ℕ → ℕ
once_below n x = (if nat_lt x n then 1 else 0)

-- how many of the claims found no task; each task is given twice
abbrev pub late_count : ℕ → List ℕ → ℕ
late_count tasks claims = count_by (λ c. nat_le (2 * tasks) c) claims

-- the view of a seat that has done nothing
abbrev pub unused_view : List ℕ → View
unused_view numbers = record { numbers = numbers; claims = []; marked = []; seen = [] }

-- the word of a task, how often seats marked the task, and how often seats saw it marked
abbrev pub IsMarkWord : ℕ → ℕ → ℕ → Type 0
IsMarkWord word marks looks = (word ≡ min 1 marks) × (0 < looks → 0 < marks)

-- a seat has at most one claim that found no task for each number that it has, and one that has no number has done
-- nothing
pub record IsFair (size : Size) (v : View) : Type 0 where
  pub late_claims : late_count size.tasks v.claims ≤ length v.numbers
  pub spent : length v.numbers ≡ 0 → (v.claims ≡ []) × (v.marked ≡ []) × (v.seen ≡ [])

pub record IsConsistent (size : Size) (s : State (Unit {0}) View) : Type 0 where
  pub wide : length s.words ≡ size.tasks + 1
  pub small : (size.tasks ≤ MOST_TASKS) × (size.seats ≤ MOST_SEATS)
  -- the claims of all seats are the numbers below word 0, each once
  pub claims_once : (c : ℕ)
      → sum_by (λ v. occurrences c v.claims) s.views ≡ once_below (slice_index s.words 0) c
  -- the numbers of the seats are those below the number of seats, each once
  pub numbers_once : (k : ℕ)
      → sum_by (λ v. occurrences k v.numbers) s.views ≡ once_below size.seats k
  pub all_seats : sum_by (λ v. length v.numbers) s.views ≡ size.seats
  pub late : slice_index s.words 0 - 2 * size.tasks ≡ sum_by (λ v. late_count size.tasks v.claims) s.views
  pub marks : (t : ℕ) → IsMarkWord (slice_index s.words (t + 1))
      (sum_by (λ v. occurrences t v.marked) s.views) (sum_by (λ v. occurrences t v.seen) s.views)
  pub each : All (IsFair size) s.views

-- what a seat knows before and after a step that finds this in its word
module _ (st : Step (Unit {0})) (m : Me (Unit {0}) View) (word : ℕ) (m' : Me (Unit {0}) View) where
  -- a claim is greater than all that the seat made before
  abbrev pub TellsClaim : Type 0
  TellsClaim = (m' ≡ (record m.0 { claims = m.0.claims ++ word ∷ [] }, m.1)) × All (λ x. x < word) m.0.claims

  -- the word t + 1 is that of task t
  abbrev pub TellsMark : Type 0
  TellsMark = let task = st.word - 1 in
      m' ≡ (record m.0 { marked = m.0.marked ++ task ∷ []; seen = m.0.seen ++ task ∷ [] }, m.1)

  -- a task that is not marked was not seen marked before
  abbrev pub TellsLook : Type 0
  TellsLook = let task = st.word - 1 in
      ((word ≡ 0) × (¬ Contains m.0.seen task) × (m' ≡ m))
      ⊎ ((word ≡ 1) × (m' ≡ (record m.0 { seen = m.0.seen ++ task ∷ [] }, m.1)))

  -- the seat's claims are among those that are counted
  abbrev pub TellsCount : Type 0
  TellsCount = (m' ≡ m) × All (λ x. x < word) m.0.claims × (word ≤ 2 * MOST_TASKS + MOST_SEATS)

-- one seat that has what two had
abbrev pub joined_view : View → View → View
joined_view v w = record {
  numbers = v.numbers ++ w.numbers;
  claims = v.claims ++ w.claims;
  marked = v.marked ++ w.marked;
  seen = v.seen ++ w.seen;
}
