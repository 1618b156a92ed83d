-- The steps of a gathering that keeps a total of its first inputs.
use Rattle.std.proofs.Common.{◌≡◌, ℕ, ◌+◌, ◌<◌, ◌≤◌, max, if◌then◌else◌, Bool, true, false, ◌||◌, ◌&&◌, not, nat_lt, List, [], ◌∷◌, ◌++◌, Option, Some, None}
use Rattle.std.proofs.Common.{length, take, drop, slice_get, get_or, set, is_some, take-append-drop, refl, sym, ◌∙◌, arith, inl, inr, ◌⊎◌}
use Rattle.std.specs.Option.{option_or}
use Rattle.std.proofs.lemmas.Grind.{common_steps}
use Rattle.std.proofs.lemmas.List.{get_or_read, take_all, take_more}
use Rattle.std.proofs.lemmas.Option.{get_or_from_slice_get, slice_get_within}
use Rattle.std.proofs.lemmas.Bool.{cases_lt}
use Rattle.std.proofs.lemmas.Bool.Decides.{nat_tests}
use Rattle.std.proofs.Math.ListN.{length-set}
use Rattle.std.specs.Cmp.{IsEquivalence}
use Rattle.std.specs.Cmp.Lexicographic.{as_long}
use Rattle.std.specs.Cmp.{nat_cmp_total}
use Rattle.std.specs.FinSet.{contains, contains-union, union}
use Rattle.gathering.specs.Adding.{CanAdd, AddsOutput, same_inputs}
use Rattle.gathering.specs.Kept.{IsFolded, covered_tasks}
use Rattle.gathering.specs.Views.{PieceView, IsComplete, belongs}
use Rattle.gathering.proofs.CoveredTasks.{contains-covered, covered-fold, covered_as}
use Rattle.gathering.proofs.EqualInputs.{belongs_as, own_input, same-take}

module _ {A C : Type 0} {eq : A → A → Bool} {IsTotalOf : List A → C → Type 0} {inputs : List A} {p : ℕ} {total : C}
    {places : List (Option (PieceView A))} (folded : IsFolded eq IsTotalOf inputs p total places) where
  -- each folded input has a place
  pub fits : p ≤ length places
  fits = omega (arith, folded.one_each, folded.within)

  -- a piece is filed from p on
  pub IsFolded-file : (piece : PieceView A) → p ≤ piece.number → belongs eq inputs piece ≡ true
      → IsFolded eq IsTotalOf inputs p total (set places piece.number (Some piece))
  IsFolded-file piece from own = let at = own_input eq inputs piece own in record {
    one_each = length-set places piece.number (Some piece) ∙ folded.one_each;
    within = folded.within;
    total_is = folded.total_is;
    pieces = λ k other e. let is = folded.pieces k other in let within = slice_get_within inputs piece.number at.0 at.1 in let long = folded.one_each in
        grind (arith, common_steps);
  }

  -- a task that is not covered is not folded
  pub from_free : (k : ℕ) → contains (covered_tasks p places) k ≡ false → p ≤ k
  from_free k free = let is = contains-covered p places fits k in grind (arith, nat_tests)

  -- where no task is missing and the place p is empty, the total is whole
  pub whole : IsComplete (record { inputs = inputs; covered = covered_tasks p places }) → get_or places p None ≡ None → IsTotalOf inputs total
  whole all gap = elim (cases_lt p (length inputs)) [
    | inl below ↦ (let is = contains-covered p places fits p in let covered = all p below in absurd (grind (arith, nat_tests)))
    | inr past ↦ rw (take_all p inputs past) at folded.total_is
  ]

  -- the piece that is read at p is added and dropped
  module _ {B : Type 0} (Gives : A → B → Type 0) (IsAdmissible : List A → Type 0)
      (equal_values : (a b : A) (output : B) → eq a b ≡ true → Gives a output → Gives b output)
      (admissible : IsAdmissible inputs) (below : p < length inputs) {read : Option (PieceView A)} {piece : PieceView A}
      (at : read ≡ get_or places p read) (is : read ≡ Some piece) {output : B} (output_is : Gives piece.input output)
    where
      here : get_or places p None ≡ Some piece
      here = sym (get_or_read places p read (omega (arith, folded.one_each)) at None) ∙ is

      -- the input of the place, equal to the piece's
      next : (x : A) × (slice_get inputs p ≡ Some x) × (eq piece.input x ≡ true)
      next = let known = folded.pieces p piece here in rw known.1 at (own_input eq inputs piece known.2)

      one_more : take (p + 1) inputs ≡ take p inputs ++ next.0 ∷ []
      one_more = rw (take_more inputs p next.0 below, get_or_from_slice_get inputs p next.0 next.0 next.1)

      -- the output may be added to the total of the inputs before it
      pub can_add : CanAdd Gives IsTotalOf IsAdmissible total output
      can_add = record {
        before = take p inputs;
        next = next.0;
        total_is = folded.total_is;
        output_is = equal_values piece.input next.0 output next.2 output_is;
        admissible = (drop (p + 1) inputs, rw (← one_more, take-append-drop) admissible);
      }

      -- and then the total is that of the inputs up to it, and the same tasks are covered
      pub added : {new : C} → AddsOutput Gives IsTotalOf IsAdmissible total output new
          → IsFolded eq IsTotalOf inputs (p + 1) new (set places p None) × (covered_tasks (p + 1) (set places p None) ≡ covered_tasks p places)
      unfolding can_add
      added adds = let long = folded.one_each in (
        record {
          one_each = length-set {A = Option (PieceView A)} places p None ∙ folded.one_each;
          within = omega arith;
          total_is = rw one_more (adds can_add.before can_add.next can_add.total_is can_add.output_is can_add.admissible);
          pieces = λ k other e. let known = folded.pieces k other in grind (arith, common_steps);
        },
        covered-fold p places piece (omega arith) here,
      )

module _ {X : Type 0} where
  from_either : (b : Bool) (o u : Option X) (x : X) → (if b then None else option_or o u) ≡ Some x → (b ≡ false) × ((o ≡ Some x) ⊎ (u ≡ Some x))
  from_either true o u x h = cc
  from_either false (Some y) u x h = (refl, inl h)
  from_either false None u x h = (refl, inr h)

  is_some-either : (b : Bool) (o u : Option X) → is_some (if b then None else option_or o u) ≡ (not b && (is_some o || is_some u))
  is_some-either true o u = refl
  is_some-either false (Some x) u = refl
  is_some-either false None u = refl

in_parts : (x y s t : Bool) → ((x || y) || (not (x || y) && (s || t))) ≡ ((x || s) || (y || t))
in_parts x y s t = grind arith

-- two are merged: `r` is the longer prefix of `p` and `q`, and `both` are the pieces of either from there on
module _
    {A C : Type 0} {eq : A → A → Bool} {IsTotalOf : List A → C → Type 0} {inputs others : List A} {p q r : ℕ} {a b : C}
    {own their : List (Option (PieceView A))} (both : List (Option (PieceView A))) (same : same_inputs eq inputs others ≡ true)
    (folded : IsFolded eq IsTotalOf inputs p a own) (theirs : IsFolded eq IsTotalOf others q b their)
    (longer : r ≡ max p q) (count : length both ≡ length own)
    (united : (k : ℕ) → get_or both k None ≡ (if nat_lt k r then None else option_or (get_or own k None) (get_or their k None)))
  where
    pub IsFolded-merge : {c : C} → IsEquivalence eq → ((xs ys : List A) → same_inputs eq xs ys ≡ true → (t : C) → IsTotalOf ys t → IsTotalOf xs t)
        → c ≡ (if nat_lt p q then b else a) → IsFolded eq IsTotalOf inputs r c both
    IsFolded-merge {c = c} laws equal_totals chosen = let n = as_long eq inputs others same in let w = folded.within in let v = theirs.within in record {
      one_each = count ∙ folded.one_each;
      within = omega arith;
      total_is = elim (cases_lt p q) [
        | inl less ↦ (let is : r ≡ q = omega arith in let it : c ≡ b = grind (arith, nat_tests) in
            rw (is, it) (equal_totals (take q inputs) (take q others) (same-take eq q inputs others same) b theirs.total_is))
        | inr more ↦ (let is : r ≡ p = omega arith in let it : c ≡ a = grind (arith, nat_tests) in rw (is, it) folded.total_is)
      ];
      pieces = λ k piece h. let from = from_either (nat_lt k r) (get_or own k None) (get_or their k None) piece (sym (united k) ∙ h) in elim from.1 [
        | inl here ↦ (let is = folded.pieces k piece here in let after = from.0 in (grind (arith, nat_tests), is.1, is.2))
        | inr there ↦ (let is = theirs.pieces k piece there in let after = from.0 in
            (grind (arith, nat_tests), is.1, belongs_as eq laws inputs others piece same ∙ is.2))
      ];
    }

    pub covered-merge : covered_tasks r both ≡ union (covered_tasks p own) (covered_tasks q their)
    covered-merge = let n = as_long eq inputs others same in let w = folded.within in let v = theirs.within in let long = folded.one_each in
        covered_as r both (omega arith) _ (λ k. let mine = contains-covered p own (fits folded) k in let its = contains-covered q their (fits theirs) k in
        let test : nat_lt k r ≡ (nat_lt k p || nat_lt k q) = grind (arith, nat_tests) in let here = united k in
        let some = is_some-either (nat_lt k r) (get_or own k None) (get_or their k None) in
        let all = in_parts (nat_lt k p) (nat_lt k q) (is_some (get_or own k None)) (is_some (get_or their k None)) in
        let united = contains-union nat_cmp_total (covered_tasks p own) (covered_tasks q their) k in cc)
