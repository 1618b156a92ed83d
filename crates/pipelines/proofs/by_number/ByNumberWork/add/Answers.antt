use Rattle.std.proofs.Common.{◌≡◌, ℕ, zero, suc, ◌+◌, List, [], ◌∷◌, ◌++◌, Some, length, take, drop, slice_get, take-append-drop, ap, ◌∙◌, subst, arith}
use Rattle.std.specs.List.{range_with_len}
use Rattle.std.proofs.lemmas.List.{length_push, take_more}
use Rattle.std.proofs.lemmas.Option.{get_or_from_slice_get, slice_get_within}
use Rattle.base.specs.Least.{numbers_below}
use Rattle.gathering.specs.Adding.{AddsOutput, CanAdd, StartsAdmissible}
use Rattle.std.proofs.lemmas.Result.{on_ok_weaker}
use Rattle.pipelines.proofs.by_number.ByNumberWork.add.Goals as goal

-- the next of a range is its start and as many as come before
next_is : (a n : ℕ) (before : List ℕ) (next : ℕ) (rest : List ℕ) → (before ++ next ∷ []) ++ rest ≡ range_with_len a n → next ≡ a + length before
next_is a zero [] next rest all = cc
next_is a zero (b ∷ before) next rest all = cc
next_is a (suc n) [] next rest all = let h : next ≡ a = cc in omega (arith, h)
next_is a (suc n) (b ∷ before) next rest all =
    let tail : (before ++ next ∷ []) ++ rest ≡ range_with_len (a + 1) n = cc in omega (arith, next_is (a + 1) n before next rest tail)

module _ {X B C : Type 0} (Gives : X → B → Type 0) (IsTotalOf : List X → C → Type 0) (IsAdmissible : List X → Type 0) (inputs : List X) where
  abbrev GivesAt : ℕ → B → Type 0
  GivesAt n output = (x : X) × (slice_get inputs n ≡ Some x) × Gives x output

  abbrev IsTotalOfFirst : List ℕ → C → Type 0
  IsTotalOfFirst numbers total = IsTotalOf (take (length numbers) inputs) total

  abbrev AreAll : List ℕ → Type 0
  AreAll numbers = (numbers ≡ numbers_below (length inputs)) × IsAdmissible inputs

  -- the inputs up to the next one
  one_more : (before : List ℕ) (next : ℕ) → StartsAdmissible AreAll (before ++ next ∷ []) → (x : X) → slice_get inputs next ≡ Some x
      → take (length before + 1) inputs ≡ take (length before) inputs ++ x ∷ []
  one_more before next starts x at =
      let is = next_is 0 (length inputs) before next starts.0 starts.1.0 in
      let next_at : slice_get inputs (length before) ≡ Some x = ap (slice_get inputs) (omega (arith, is)) ∙ at in
      take_more inputs (length before) x (slice_get_within inputs (length before) x next_at)
      ∙ ap (λ y. take (length before) inputs ++ y ∷ []) (get_or_from_slice_get inputs (length before) x x next_at)

  starts_own : (before : List ℕ) (next : ℕ) (starts : StartsAdmissible AreAll (before ++ next ∷ [])) (x : X) → slice_get inputs next ≡ Some x
      → StartsAdmissible IsAdmissible (take (length before) inputs ++ x ∷ [])
  starts_own before next starts x at =
      (drop (length before + 1) inputs, rw (← one_more before next starts x at, take-append-drop) starts.1.1)

  -- an output may be added by the work itself
  can_add : {total : C} {output : B} → CanAdd GivesAt IsTotalOfFirst AreAll total output → CanAdd Gives IsTotalOf IsAdmissible total output
  can_add may = let at = may.output_is in record {
    before = take (length may.before) inputs;
    next = at.0;
    total_is = may.total_is;
    output_is = at.2;
    admissible = starts_own may.before may.next may.admissible at.0 at.1;
  }

  -- and then it is added by number
  added : {old : C} {output : B} {new : C} → AddsOutput Gives IsTotalOf IsAdmissible old output new
      → AddsOutput GivesAt IsTotalOfFirst AreAll old output new
  added {new = new} adds before next total_is gives starts =
      let more = one_more before next starts gives.0 gives.1 in
      let long : length before + 1 ≡ length (before ++ next ∷ []) = omega (arith, length_push before next) in
      subst (λ (n : ℕ). IsTotalOf (take n inputs) new) long
      (rw more (adds (take (length before) inputs) gives.0 total_is gives.2 (starts_own before next starts gives.0 gives.1)))

pub add-requires : goal.add-requires
add-requires g c = can_add g.W.Work.Gives g.W.Work.IsTotalOf g.W.Work.IsAdmissible g.K.Known.inputs c.requires

pub returns-clause-ok : goal.returns-clause-ok
returns-clause-ok g c =
    on_ok_weaker c.add.result (added g.W.Work.Gives g.W.Work.IsTotalOf g.W.Work.IsAdmissible g.K.Known.inputs) c.add.ensures.ok
