use Rattle.std.proofs.Common.{◌≡◌, ◌∷◌, ◌++◌, ◌+◌, ℕ, List, Option, Some, Err, MatchOption, arith, refl, sym, ap, ◌∙◌, subst, nat_cmp, append-nil}
use Rattle.std.specs.List.Sorted.{IsStrictlySortedBy}
use Rattle.std.proofs.lemmas.Option.{MatchOption-at_none, MatchOption-at_some}
use Rattle.std.proofs.lemmas.Result.{err_from_is_err_and}
use Rattle.base.specs.Least.{least_by}
use Rattle.day_file.specs.Frames.{IsTruncatedAt, IsWhole, PlacedBody}
use Rattle.day_file.specs.Placed.{placed_body}
use Rattle.day_file.proofs.Kept.{bytes_of_type}
use Rattle.day_file.proofs.Laws.{places_rise}
use Rattle.meaning.specs.Meaning.{Meaning}
use Rattle.answers.specs.Answers.{DayFault, IsAnswer, Truncated, WrongLength}
use Rattle.answers.proofs.AnswerOfSteps.{truncation_answers, wrong_length_answers}
use Rattle.day_rows.specs.DayRows.{rows_of}
use Rattle.day_rows.specs.Messages.{counted, first_wrong, messages_of}
use Rattle.day_rows.proofs.CountedMessages.{counted_by_place, few_trades}
use Rattle.day_rows.proofs.RowsByPlace.{messages_by_place}
use Rattle.day_rows.proofs.RowsOfFrames.{right_length, wrong_first}
use Rattle.day_rows.proofs.Stamped.{stamped_rows}
use Rattle.morsel_rows.specs.Partitions.{in_partitions}
use Rattle.executor.proofs.Steps.{collects}
use Rattle.executor.proofs.answering.collect.Goals as goal

-- a file that is truncated, whose first frame begins at 0
truncated_at : (bytes : List ℕ) {truncated : Option ℕ} (place : ℕ) → truncated ≡ Some place
    → MatchOption truncated (IsWhole bytes) (λ end. (count : ℕ) × (end ≡ 0 + count) × IsTruncatedAt bytes count)
    → (query : Meaning) → IsAnswer bytes query (Err (Truncated place))
truncated_at bytes place some ends query =
    let at = MatchOption-at_some (IsWhole bytes) _ place some ends in
    let same : at.0 ≡ place = omega (arith, at.1) in truncation_answers bytes query place (subst (IsTruncatedAt bytes) same at.2)

pub loop-frame-preserved : goal.loop-frame-preserved
loop-frame-preserved g c =
    let added = rw c.in-Ok.ensures.message at c.in_ok-add_counted-in-Ok.ensures.added in
    record {
      so_far = collects _ _ _ (placed_body c.in-Some.frame) _ _ _ c.loop-frame.invariant.so_far c.in-Some.ensures.steps.0
          (right_length _ c.in-Ok.ensures.fault.1) added;
      end = c.in-Some.ensures.steps.1 ∙ c.loop-frame.invariant.end;
    }

pub returns-in_err-finish-in-Err-clause-fault : goal.returns-in_err-finish-in-Err-clause-fault
returns-in_err-finish-in-Err-clause-fault g c =
    let exit = err_from_is_err_and c.from_residual-in_err-finish-in-Err.result c.from_residual-in_err-finish-in-Err.ensures.1 in
    let stands = sym c.loop-frame.invariant.end ∙ sym c.in-Some.ensures.steps.1 ∙ c.in_err-finish-in-Err.ensures in
    rw (exit.1, exit.2) (truncated_at c.args.bytes.now _ stands c.of-left.ensures.end)

pub returns-in-Err-clause-fault : goal.returns-in-Err-clause-fault
returns-in-Err-clause-fault g c query =
    let so_far = c.loop-frame.invariant.so_far in
    let none = sym c.loop-frame.invariant.end ∙ sym c.in-Some.ensures.steps.1 ∙ c.in_ok-finish-in-Err.ensures in
    let whole = MatchOption-at_none (IsWhole c.args.bytes.now) _ none c.of-left.ensures.end in
    let split : whole.0 ≡ so_far.front ++ placed_body c.in-Some.frame ∷ c.next.new.self.frames =
    sym (c.of-left.ensures.whole whole.0 whole.1) ∙ so_far.split ∙ ap (λ l. so_far.front ++ l) c.in-Some.ensures.steps.0 in
    let rise = subst (IsStrictlySortedBy (λ (a b : PlacedBody). nat_cmp a.place b.place)) split (places_rise 0 whole.0 whole.1.places) in
    let first = wrong_first so_far.front (placed_body c.in-Some.frame) c.next.new.self.frames so_far.none (c.in-Err.ensures.fault.0 refl) rise in
    let told = ap (λ f. WrongLength c.in-Some.frame.place f.kind f.length f.wanted) c.in-Err.ensures.told in
    subst (λ (fault : DayFault). IsAnswer c.args.bytes.now query (Err fault)) (sym told)
    (wrong_length_answers c.args.bytes.now query whole.0 (placed_body c.in-Some.frame) whole.1 (ap first_wrong split ∙ first))

pub returns-in_err-finish-clause-fault : goal.returns-in_err-finish-clause-fault
returns-in_err-finish-clause-fault g c =
    let exit = err_from_is_err_and c.from_residual-in_err-finish.result c.from_residual-in_err-finish.ensures.1 in
    let stands = sym c.loop-frame.invariant.end ∙ sym c.in_default.ensures.steps.1 ∙ c.in_err-finish.ensures in
    rw (exit.1, exit.2) (truncated_at c.args.bytes.now _ stands c.of-left.ensures.end)

pub returns-clause-rows : goal.returns-clause-rows
returns-clause-rows g c =
    let so_far = c.loop-frame.invariant.so_far in
    let none = sym c.loop-frame.invariant.end ∙ sym c.in_default.ensures.steps.1 ∙ c.in_ok-finish.ensures in
    let whole = MatchOption-at_none (IsWhole c.args.bytes.now) _ none c.of-left.ensures.end in
    let front : whole.0 ≡ so_far.front =
    sym (c.of-left.ensures.whole whole.0 whole.1) ∙ so_far.split ∙ ap (λ l. so_far.front ++ l) c.in_default.ensures.steps.0.0 ∙ append-nil so_far.front in
    record {
      messages = counted c.args.as_of (messages_of whole.0);
      has = record {
        frames = whole.0;
        stands = whole.1;
        right = ap first_wrong front ∙ ap (least_by (λ (f : PlacedBody). f.place)) so_far.none;
        are = refl;
      };
      of = record {
        by_place = counted_by_place c.args.as_of (messages_of whole.0) (messages_by_place whole.0 (places_rise 0 whole.0 whole.1.places));
        are = so_far.are ∙ ap (λ frames. in_partitions 1 (rows_of (counted c.args.as_of (messages_of frames)))) (sym front);
        stamped = stamped_rows c.args.as_of c.args.bytes.now whole.0 (bytes_of_type c.args.bytes.now c.type_inv.bytes) whole.1;
        few = few_trades c.args.as_of c.args.bytes.now whole.0 whole.1 c.requires;
      };
    }
