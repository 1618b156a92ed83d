-- The tasks that a total and places cover, and which is the first that isn't.
use Rattle.std.proofs.Common.{◌≡◌, ℕ, zero, suc, ◌+◌, ◌<◌, ◌≤◌, Bool, true, ◌||◌, ◌&&◌, List, Option, Some, None, length}
use Rattle.std.proofs.Common.{get_or, set, nat_eq, nat_le, nat_lt, replicate, is_some, sym, ◌∙◌, ap, arith, inl, inr}
use Rattle.std.proofs.lemmas.Grind.{common_steps}
use Rattle.std.proofs.Math.ListN.{get_or-eq_default, length-set}
use Rattle.std.proofs.lemmas.Bool.{cases_lt}
use Rattle.std.proofs.lemmas.Bool.Decides.{nat_tests}
use Rattle.std.specs.List.{list_any, range_with_len}
use Rattle.std.specs.Ordering.{nat_cmp}
use Rattle.std.specs.FinSet.{FinSet, contains, contains-retain, contains-from_list_nat, insert, empty, union, from_list, same_set, members}
use Rattle.std.specs.FinSet.{nat_cmp-IsAntisymmetric}
use Rattle.std.specs.Cmp.{nat_cmp_total}
use Rattle.base.proofs.Lists.{get_or-replicate_itself}
use Rattle.gathering.specs.Kept.{covered_tasks}
use Rattle.gathering.specs.Views.{GatheringView, IsFirstMissing}

same : (s t : FinSet nat_cmp) → ((k : ℕ) → contains s k ≡ contains t k) → s ≡ t
same = same_set nat_cmp_total nat_cmp-IsAntisymmetric

in_range : (a n k : ℕ) → list_any (λ y. nat_eq y k) (range_with_len a n) ≡ (nat_le a k && nat_lt k (a + n))
in_range a zero k = grind (arith, nat_tests)
in_range a (suc n) k = let later = in_range (a + 1) n k in grind (arith, nat_tests)

module _ {X : Type 0} where
  pub contains-covered : (p : ℕ) (places : List (Option X)) → p ≤ length places → (k : ℕ)
      → contains (covered_tasks p places) k ≡ (nat_lt k p || is_some (get_or places k None))
  contains-covered p places fits k = let test : ℕ → Bool = λ j. nat_lt j p || is_some (get_or places j None) in
      let all : FinSet nat_cmp = from_list (range_with_len 0 (length places)) in
      let kept = contains-retain all test k (λ x tied. ap test (sym (nat_cmp-IsAntisymmetric k x tied))) in
      let there = contains-from_list_nat (range_with_len 0 (length places)) k ∙ in_range 0 (length places) k in elim (cases_lt k (length places)) [
        | inl within ↦ grind (arith, nat_tests)
        | inr past ↦ (let none = get_or-eq_default places None past in grind (arith, nat_tests))
      ]

  -- places that cover what the set has
  pub covered_as : (p : ℕ) (places : List (Option X)) → p ≤ length places → (s : FinSet nat_cmp)
      → ((k : ℕ) → (nat_lt k p || is_some (get_or places k None)) ≡ contains s k) → covered_tasks p places ≡ s
  covered_as p places fits s is = same _ _ (λ k. contains-covered p places fits k ∙ is k)

  -- one place more is filled
  pub covered-set : (p : ℕ) (places : List (Option X)) (t : ℕ) (x : X) → p ≤ length places → t < length places
      → covered_tasks p (set places t (Some x)) ≡ insert (covered_tasks p places) t
  covered-set p places t x fits h = covered_as p (set places t (Some x)) (omega (arith, length-set places t (Some x))) _ (λ k.
      let before = contains-covered p places fits k in grind (arith, nat_tests, common_steps, members))

  -- the piece of the place p is folded, or stays
  pub covered-fold : (p : ℕ) (places : List (Option X)) (x : X) → p < length places → get_or places p None ≡ Some x
      → covered_tasks (p + 1) (set places p None) ≡ covered_tasks p places
  covered-fold p places x h here = covered_as (p + 1) (set places p None) (omega (arith, length-set {A = Option X} places p None)) _ (λ k.
      let before = contains-covered p places (omega arith) k in grind (arith, nat_tests, common_steps))

pub covered-replicate : (X : Type 0) (n : ℕ) → covered_tasks 0 (replicate {A = Option X} n None) ≡ empty
covered-replicate X n = covered_as 0 _ (omega arith) empty (λ k.
    let none = get_or-replicate_itself {X = Option X} n k None in grind (arith, nat_tests, members))

pub union_swapped : (s t : FinSet nat_cmp) → union s t ≡ union t s
union_swapped s t = same _ _ (λ k. grind (arith, members))

pub union_grouped : (s t u : FinSet nat_cmp) → union (union s t) u ≡ union s (union t u)
union_grouped s t u = same _ _ (λ k. grind (arith, members))

pub union_same : (s : FinSet nat_cmp) → union s s ≡ s
union_same s = same _ _ (λ k. grind (arith, members))

-- a member is put in again
pub insert_member : (s : FinSet nat_cmp) (t : ℕ) → contains s t ≡ true → insert s t ≡ s
insert_member s t h = same _ _ (λ k. grind (arith, nat_tests, members))

-- where the same tasks are covered the first missing one is the same
pub one_first : {A : Type 0} (a b : GatheringView A) (t u : ℕ) → a.covered ≡ b.covered → IsFirstMissing a t → IsFirstMissing b u → t ≡ u
one_first a b t u same first other =
    let not_before : ¬ (t < u) = λ h. let e = other.least t h in let m = first.missing in cc in
    let not_after : ¬ (u < t) = λ h. let e = first.least u h in let m = other.missing in cc in
    omega arith

pub ruleset joined = (one_first, union_swapped, union_grouped, union_same)

pub ruleset gathered = (contains-covered, covered-replicate, get_or-eq_default)
