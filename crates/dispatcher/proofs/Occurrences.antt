-- Sums over lists, how often a number is in a list, lists that have each number below n once, and what claims give.
use Rattle.std.proofs.Common.{◌≡◌, ℕ, zero, suc, ◌+◌, ◌-◌, ◌*◌, ◌%◌, ◌<◌, ◌≤◌, ◌==◌, ◌&&◌, ◌↔◌, nat_lt, nat_le, cond, List, [], ◌∷◌, set, get_or, length}
use Rattle.std.proofs.Common.{All, Any, Contains, IsPermutation, remove, sum_by, sym, refl, ap, arith, ⊎_elim}
use mathlib.Core.Option.{some}
use lib.ListN.{get_elem?}
use Rattle.std.specs.List.{flat_map, range_with_len}
use Rattle.std.proofs.Math.Nat.{mod-eq_of_lt, mod-eq-sub-mod}
use Rattle.std.proofs.lemmas.List.Sorted.{IsPermutation-refl, IsPermutation-sym, IsPermutation-push_more, IsPermutation-remove}
use Rattle.std.proofs.lemmas.List.Sums.{sum_by-append, sum_by-set, sum_by-cons, sum_by-remove, get_or-le-sum_by}
use Rattle.std.proofs.lemmas.Bool.{cases_lt}
use Rattle.std.proofs.lemmas.Bool.Decides.{nat_tests}
use Rattle.base.proofs.Lists.{range_more}
use Rattle.dispatcher.specs.Seats.{times_given}
use Rattle.dispatcher.specs.Rule.{occurrences, once_below, late_count}

module _ {A : Type 0} where
  pub at_read : (l : List A) (i : ℕ) (a d : A) → get_elem? l i ≡ some a → (i < length l) × (get_or l i d ≡ a)
  at_read [] i a d e = absurd (cc)
  at_read (x ∷ xs) zero a d e = (omega arith, cc)
  at_read (x ∷ xs) (suc i) a d e = let r = at_read xs i a d e in (omega arith, r.1)

  -- at each element at most what two others are together
  pub sum_le : (f g h : A → ℕ) (l : List A) → All (λ v. f v ≤ g v + h v) l → sum_by f l ≤ sum_by g l + sum_by h l
  sum_le f g h [] le = omega arith
  sum_le f g h (x ∷ xs) le = let later = sum_le f g h xs (λ k d below. le (suc k) d (omega arith)) in
      omega (arith, le 0 x (omega arith), sum_by-cons f x xs, sum_by-cons g x xs, sum_by-cons h x xs)

  module _ (f : A → ℕ) where
    -- the sum after one element changed
    pub sum_set : (l : List A) (i : ℕ) (v w : A) → get_elem? l i ≡ some v
        → sum_by f (set l i w) + f v ≡ sum_by f l + f w
    sum_set l i v w e = let r = at_read l i v v e in omega (arith, ap f r.1, sum_by-set f l i w v r.0)

    some_counts : {P : A → Type 0} → ((x : A) → 0 < f x → P x) → (l : List A) → 0 < sum_by f l → Any P l
    some_counts holds [] h = absurd (omega arith)
    some_counts holds (x ∷ xs) h = ⊎_elim (λ here. (0, x, omega arith, refl, holds x here)) (λ none.
        let r = some_counts holds xs (omega (arith, sum_by-cons f x xs)) in (suc r.0, r.1, omega arith, r.3, r.4))
        (cases_lt 0 (f x))

    counts_some : {P : A → Type 0} → ((x : A) → P x → 0 < f x) → (l : List A) → Any P l → 0 < sum_by f l
    counts_some counts l h = omega (arith, counts h.1 h.4, ap f h.3, get_or-le-sum_by f l h.0 h.1 h.2)

contains : (x : ℕ) (xs : List ℕ) → (0 < occurrences x xs) ↔ Contains xs x
contains x xs = let some = some_counts (λ z. cond (z == x) 1 0) {P = λ z. z ≡ x} (λ z one. grind (arith, nat_tests)) xs in
    let counts = counts_some (λ z. cond (z == x) 1 0) {P = λ z. z ≡ x} (λ z is. grind (arith, nat_tests)) xs in
    ((λ h. let found = some h in (found.0, found.2, rw found.4 at found.3)), λ h. counts (h.0, x, h.1, h.2, refl))

module _ {A : Type 0} (f : A → List ℕ) (x : ℕ) (l : List A) where
  -- some element has the number in its list
  pub any_has : (0 < sum_by (λ a. occurrences x (f a)) l) ↔ Any (λ a. Contains (f a) x) l
  any_has = (some_counts _ (λ a. (contains x (f a)).0) l, counts_some _ (λ a. (contains x (f a)).1) l)

  pub occurs_at : (i : ℕ) (a : A) → get_elem? l i ≡ some a → Contains (f a) x → 0 < sum_by (λ b. occurrences x (f b)) l
  occurs_at i a at has = let read = at_read l i a a at in any_has.1 (i, a, read.0, read.1, has)

pub occurrences_flat : {A : Type 0} (f : A → List ℕ) (l : List A) (x : ℕ)
    → occurrences x (flat_map f l) ≡ sum_by (λ a. occurrences x (f a)) l
occurrences_flat f [] x = refl
occurrences_flat f (a ∷ l) x = let sum = sum_by-cons (λ b. occurrences x (f b)) a l in
    rw (sum_by-append, occurrences_flat f l x) (omega arith)

-- a range has each of its numbers once
pub occurs_range : (x a n : ℕ) → occurrences x (range_with_len a n) + once_below a x ≡ once_below (a + n) x
occurs_range x a zero = grind (arith, nat_tests)
occurs_range x a (suc n) = let more = sum_by-cons (λ z. cond (z == x) 1 0) a (range_with_len (a + 1) n) in
    let next = occurs_range x (a + 1) n in grind (arith, nat_tests)

-- of the n numbers from a on, those that find no task
pub late_range : (tasks a n : ℕ) → late_count tasks (range_with_len a n) + (a - 2 * tasks) ≡ a + n - 2 * tasks
late_range tasks a zero = omega arith
late_range tasks a (suc n) = let more = sum_by-cons (λ c. cond (nat_le (2 * tasks) c) 1 0) a (range_with_len (a + 1) n) in
    let next = late_range tasks (a + 1) n in grind (arith, nat_tests)

-- a list that has each number below n once has these numbers in some order
pub once_each : (n : ℕ) (xs : List ℕ) → ((x : ℕ) → occurrences x xs ≡ once_below n x)
    → IsPermutation xs (range_with_len 0 n)
once_each zero [] h = IsPermutation-refl []
once_each zero (y ∷ ys) h = let more = sum_by-cons (λ z. cond (z == y) 1 0) y ys in absurd (grind (arith, nat_tests, h y))
once_each (suc n) xs h = let at = (contains n xs).0 (grind (arith, nat_tests, h n)) in let rest = remove xs at.0 in
    let others = once_each n rest (λ x. let less = sum_by-remove (λ z. cond (z == x) 1 0) xs at.0 n at.1 in
    grind (arith, nat_tests, h x, at.2)) in let first = IsPermutation-remove xs at.0 n at.1 (sym at.2) in
    rw (range_more 0 n n (omega arith)) (IsPermutation-sym _ _ (IsPermutation-push_more _ rest xs n
    (IsPermutation-sym _ _ others) (IsPermutation-sym _ _ first)))

-- a task is given by the claim of its number, and by the one that is greater by the tasks
one_given : (tasks task c : ℕ) → 0 < tasks
    → cond (nat_lt c (2 * tasks) && (c % tasks == task)) 1 0 ≤ cond (c == task) 1 0 + cond (c == task + tasks) 1 0
one_given tasks task c some_tasks = ⊎_elim (λ first. grind (arith, nat_tests, mod-eq_of_lt first))
    (λ second. grind (arith, nat_tests, mod-eq-sub-mod second, mod-eq_of_lt)) (cases_lt c tasks)

-- where each number below n was claimed once no task was given a third time
pub times_given-le : (tasks n : ℕ) (xs : List ℕ) → 0 < tasks → ((x : ℕ) → occurrences x xs ≡ once_below n x)
    → (task : ℕ) → times_given tasks task xs ≤ 2
times_given-le tasks n xs some_tasks h task = let le = sum_le (λ c. cond (nat_lt c (2 * tasks) && (c % tasks == task)) 1 0)
    (λ c. cond (c == task) 1 0) (λ c. cond (c == task + tasks) 1 0) xs
    (λ k d below. one_given tasks task (get_or xs k d) some_tasks) in grind (arith, nat_tests, h task, h (task + tasks))
