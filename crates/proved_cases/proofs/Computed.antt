-- The answer to a query over a file, computed: each file of bytes has one, and `IsAnswer` holds of it.
use Rattle.std.proofs.Common.{◌≡◌, ℕ, ◌+◌, true, nat_lt, List, length, Option, Some, None, MatchOption, Result, Ok, Err, inl, inr, refl, sym, subst, arith}
use Rattle.std.specs.List.{list_all}
use Rattle.std.proofs.lemmas.Bool.Decides.{nat_tests}
use Rattle.std.proofs.lemmas.List.Sums.{AllPass-from_list_all}
use Rattle.base.specs.Among.{AreBytes}
use Rattle.day_file.specs.Frames.{FramesLeft, PlacedBody, StandsFor, IsTruncatedAt, IsWhole}
use Rattle.day_file.specs.Walk.{left_of, walk}
use Rattle.day_file.proofs.Walks.{walk_ends, walk_whole}
use Rattle.order_table.specs.Orders.{first_repeated}
use Rattle.probe.specs.Pricing.{Sale, first_unknown}
use Rattle.time_and_sales.specs.Names.{name_of}
use Rattle.time_and_sales.specs.Texts.{listing_text}
use Rattle.bars.specs.Steps.{bars_of}
use Rattle.bars.specs.Texts.{bars_text}
use Rattle.bars.proofs.BarsOfSales.{bars_of_are}
use Rattle.meaning.specs.Meaning.{Meaning}
use Rattle.meaning.specs.declared.query.What.TheVariants.{Bars, Sales}
use Rattle.meaning.specs.declared.query.What.{What}
use Rattle.day_rows.specs.Messages.{Placed, counted, directory_rows, executions, first_wrong, messages_of, order_rows}
use Rattle.answers.specs.Answers.{DayFault, FaultOr, IsAnswer, IsAnswerToFrames, IsAnswerToMessages, IsTextOfMessages, IsTextOfSales, Truncated}
use Rattle.answers.specs.Answers.{repeated_at, selected_sales, unknown_at, wrong_length_at}

-- ---- the answer: as `IsAnswer` says, from a file's end and frames to the text or the fault

-- of bars the table that sales make, put in one by one
abbrev pub text_of : What → (ℕ → List ℕ) → List Sale → List ℕ
text_of Sales names sales = listing_text names sales
text_of (Bars width) names sales = bars_text names (bars_of width sales)

abbrev pub fault_or : {X : Type 0} → Option X → (X → DayFault) → Result (List ℕ) DayFault → Result (List ℕ) DayFault
fault_or None fault_of rest = rest
fault_or (Some x) fault_of rest = Err (fault_of x)

abbrev pub answer_to_messages : List Placed → Meaning → Result (List ℕ) DayFault
answer_to_messages messages query =
    fault_or (first_repeated (order_rows messages)) repeated_at (fault_or (first_unknown (order_rows messages) (executions messages)) unknown_at
    (Ok (text_of query.what (name_of (directory_rows messages)) (selected_sales query messages))))

abbrev pub answer_to_frames : List PlacedBody → Meaning → Result (List ℕ) DayFault
answer_to_frames frames query = fault_or (first_wrong frames) wrong_length_at (answer_to_messages (counted query.as_of (messages_of frames)) query)

-- of the frames that a walk over the file comes to, and the place where it is truncated, if it is
abbrev pub answer_to_rest : FramesLeft → Meaning → Result (List ℕ) DayFault
answer_to_rest left query = fault_or left.truncated Truncated (answer_to_frames left.frames query)

abbrev pub answer_to : List ℕ → Meaning → Result (List ℕ) DayFault
answer_to file query = answer_to_rest (left_of 0 file) query

-- ---- it is one

text_is : (what : What) (names : ℕ → List ℕ) (sales : List Sale) → IsTextOfSales what names sales (text_of what names sales)
text_is Sales names sales = refl
text_is (Bars width) names sales = (bars_of width sales, bars_of_are width sales, refl)

or_is : {X : Type 0} (found : Option X) (fault_of : X → DayFault) (rest : Result (List ℕ) DayFault) (P : Result (List ℕ) DayFault → Type 0)
    → P rest → FaultOr found fault_of (fault_or found fault_of rest) (P (fault_or found fault_of rest))
or_is None fault_of rest P p = p
or_is (Some x) fault_of rest P p = refl

messages_are_answered : (messages : List Placed) (query : Meaning) → IsAnswerToMessages messages query (answer_to_messages messages query)
messages_are_answered messages query =
    or_is (first_repeated (order_rows messages)) repeated_at
    (fault_or (first_unknown (order_rows messages) (executions messages)) unknown_at
    (Ok (text_of query.what (name_of (directory_rows messages)) (selected_sales query messages))))
    (λ answer. FaultOr (first_unknown (order_rows messages) (executions messages)) unknown_at answer
    ((text : List ℕ) × IsTextOfMessages query messages text × (answer ≡ Ok text)))
    (or_is (first_unknown (order_rows messages) (executions messages)) unknown_at
    (Ok (text_of query.what (name_of (directory_rows messages)) (selected_sales query messages)))
    (λ answer. (text : List ℕ) × IsTextOfMessages query messages text × (answer ≡ Ok text)) (
      text_of query.what (name_of (directory_rows messages)) (selected_sales query messages),
      text_is query.what (name_of (directory_rows messages)) (selected_sales query messages),
      refl,
    ))

frames_are_answered : (frames : List PlacedBody) (query : Meaning) → IsAnswerToFrames frames query (answer_to_frames frames query)
frames_are_answered frames query =
    or_is (first_wrong frames) wrong_length_at (answer_to_messages (counted query.as_of (messages_of frames)) query)
    (λ answer. IsAnswerToMessages (counted query.as_of (messages_of frames)) query answer)
    (messages_are_answered (counted query.as_of (messages_of frames)) query)

-- a file that is whole, or truncated
end_is : (file : List ℕ) (query : Meaning) (frames : List PlacedBody) (end : Option ℕ)
    → MatchOption end (StandsFor frames file) (λ place. IsTruncatedAt file place)
    → IsAnswer file query (fault_or end Truncated (answer_to_frames frames query))
end_is file query frames None stands = inr (frames, stands, frames_are_answered frames query)
end_is file query frames (Some place) truncated = inl (place, truncated, refl)

walk_is : (file : List ℕ) (end : Option ℕ)
    → MatchOption end (IsWhole file) (λ place. (count : ℕ) × (place ≡ 0 + count) × IsTruncatedAt file count)
    → MatchOption end (StandsFor (walk (length file) 0 file) file) (λ place. IsTruncatedAt file place)
walk_is file None whole = subst (λ frames. StandsFor frames file) (sym (walk_whole 0 file whole.0 whole.1)) whole.1
walk_is file (Some place) told = let e : told.0 ≡ place = omega (arith, told.1) in subst (λ n. IsTruncatedAt file n) e told.2

pub file_is_answered : (file : List ℕ) (query : Meaning) → AreBytes file → IsAnswer file query (answer_to file query)
file_is_answered file query bytes =
    end_is file query (walk (length file) 0 file) (left_of 0 file).truncated (walk_is file (left_of 0 file).truncated (walk_ends 0 file bytes))

are_bytes : (file : List ℕ) → list_all (λ byte. nat_lt byte 256) file ≡ true → AreBytes file
are_bytes file all k d within = let h = AllPass-from_list_all (λ byte. nat_lt byte 256) file all k d within in grind (arith, nat_tests)

-- of a file that is written out both premises are `refl`
pub computed : {file : List ℕ} {answer : Result (List ℕ) DayFault} (query : Meaning) → list_all (λ byte. nat_lt byte 256) file ≡ true
    → answer_to file query ≡ answer → IsAnswer file query answer
computed {file} {answer} query bytes e = subst (λ a. IsAnswer file query a) e (file_is_answered file query (are_bytes file bytes))
