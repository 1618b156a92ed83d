-- A file and a query have at most one answer; a late moment changes none, and the messages that count decide it.
use Rattle.std.proofs.Common.{arith, ◌≡◌, ℕ, List, Option, Result, Err, inl, inr, sym, ap, ◌∙◌, subst, ◌↔◌, None}
use Rattle.day_file.specs.Frames.{PlacedBody, StandsFor}
use Rattle.day_file.proofs.Laws.{frames_are_one, not_both, truncated_once}
use Rattle.probe.specs.Pricing.{Sale}
use Rattle.bars.specs.Texts.{bars_text}
use Rattle.bars.proofs.Bars.{AreBarsOf-unique}
use Rattle.meaning.specs.Meaning.{Meaning}
use Rattle.meaning.specs.declared.query.What.TheVariants.{Bars, Sales}
use Rattle.meaning.specs.declared.query.What.{What}
use Rattle.answers.specs.Answers.{DayFault, FaultOr, IsAnswer, IsAnswerToFrames, IsTextOfSales, Truncated, HasCounted, IsAnswerToMessages, NoneIsPast}
use Rattle.answers.specs.Answers.{wrong_length_at}
use Rattle.std.proofs.lemmas.Option.{MatchOption-at_none}
use Rattle.day_rows.specs.Messages.{Placed, counted, first_wrong, messages_of}
use Rattle.answers.proofs.AnswerOfSteps.{messages_answer}
use Rattle.day_rows.proofs.CountedMessages.{counted-all, counted-none}

one_text : (what : What) (names : ℕ → List ℕ) (sales : List Sale) (one other : List ℕ) → IsTextOfSales what names sales one
    → IsTextOfSales what names sales other → one ≡ other
one_text Sales names sales one other p q = p ∙ sym q
one_text (Bars width) names sales one other (table, are, e) (table', are', e') =
    e ∙ ap (bars_text names) (AreBarsOf-unique width sales table table' are are') ∙ sym e'

-- one fault, or one of what there is where there is none
one_or : {X : Type 0} (found : Option X) (fault_of : X → DayFault) (one other : Result (List ℕ) DayFault) (P Q : Type 0) → (P → Q → one ≡ other)
    → FaultOr found fault_of one P → FaultOr found fault_of other Q → one ≡ other
one_or found fault_of one other P Q once p q = grind (arith, once)

one_of_frames : (frames : List PlacedBody) (query : Meaning) (one other : Result (List ℕ) DayFault) → IsAnswerToFrames frames query one
    → IsAnswerToFrames frames query other → one ≡ other
one_of_frames frames query one other = grind (arith, one_or, one_text)

pub answers_are_one : (file : List ℕ) (query : Meaning) (one other : Result (List ℕ) DayFault) → IsAnswer file query one → IsAnswer file query other
    → one ≡ other
answers_are_one file query one other (inl (place, truncated, e)) (inl (place', truncated', e')) =
    e ∙ ap (λ p. Err (Truncated p)) (truncated_once file place place' truncated truncated') ∙ sym e'
answers_are_one file query one other (inl (place, truncated, e)) (inr (frames, stands, is)) = absurd (not_both file frames place stands truncated)
answers_are_one file query one other (inr (frames, stands, is)) (inl (place, truncated, e)) = absurd (not_both file frames place stands truncated)
answers_are_one file query one other (inr (frames, stands, is)) (inr (frames', stands', is')) =
    one_of_frames frames query one other is
    (subst (λ fs. IsAnswerToFrames fs query other) (sym (frames_are_one file frames frames' stands stands')) is')

-- ---- a moment that no message is past changes no answer, and the messages that count decide it

-- the moment changes no answer where the same messages count
at_moment : (one other : Option ℕ) (file : List ℕ) (query : Meaning) (answer : Result (List ℕ) DayFault)
    → ((frames : List PlacedBody) → StandsFor frames file → counted one (messages_of frames) ≡ counted other (messages_of frames))
    → IsAnswer file (record query { as_of = one }) answer → IsAnswer file (record query { as_of = other }) answer
at_moment one other file query answer same (inl truncated) = inl truncated
at_moment one other file query answer same (inr (frames, stands, is)) =
    inr (frames, stands, subst (λ ms. FaultOr (first_wrong frames) wrong_length_at answer (IsAnswerToMessages ms query answer)) (same frames stands) is)

pub past_all : (file : List ℕ) (query : Meaning) (answer : Result (List ℕ) DayFault) → NoneIsPast query.as_of file
    → IsAnswer file query answer ↔ IsAnswer file (record query { as_of = None }) answer
past_all file query answer none = (
  at_moment query.as_of None file query answer (λ frames stands. grind (arith, none frames, counted-all, counted-none)),
  at_moment None query.as_of file query answer (λ frames stands. grind (arith, none frames, counted-all, counted-none)),
)

-- ---- files with the same counted messages

answers_to_counted : (file : List ℕ) (query : Meaning) (messages : List Placed) (answer : Result (List ℕ) DayFault)
    → HasCounted query.as_of file messages → IsAnswer file query answer → IsAnswerToMessages messages query answer
answers_to_counted file query messages answer has (inl (place, truncated, e)) = absurd (not_both file has.frames place has.stands truncated)
answers_to_counted file query messages answer has (inr (frames, stands, is)) =
    let same = frames_are_one file frames has.frames stands has.stands in grind (arith, MatchOption-at_none)

counted_answer : (file : List ℕ) (query : Meaning) (messages : List Placed) (answer : Result (List ℕ) DayFault)
    → HasCounted query.as_of file messages → IsAnswerToMessages messages query answer → IsAnswer file query answer
counted_answer file query messages answer has is = grind (arith, messages_answer)

pub counted_decide : (one other : List ℕ) (query : Meaning) (messages : List Placed) (answer : Result (List ℕ) DayFault)
    → HasCounted query.as_of one messages → HasCounted query.as_of other messages → IsAnswer one query answer ↔ IsAnswer other query answer
counted_decide one other query messages answer has has' = (
  λ is. counted_answer other query messages answer has' (answers_to_counted one query messages answer has is),
  λ is. counted_answer one query messages answer has (answers_to_counted other query messages answer has' is),
)
