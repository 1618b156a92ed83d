-- What the steps of an answer have found makes it the answer, and a text has one line more with each step of a loop.
use Rattle.std.proofs.Common.{arith, ◌≡◌, ℕ, List, Some, None, Result, Ok, Err, inl, inr, refl, ◌+◌, ◌<◌, ◌++◌, ap, ap₂, flat_map, get_or, length, sym, take}
use Rattle.std.proofs.Common.{◌∙◌}
use Rattle.day_file.specs.Frames.{IsTruncatedAt, PlacedBody, StandsFor}
use Rattle.order_table.specs.Orders.{first_repeated}
use Rattle.probe.specs.Pricing.{Sale, first_unknown}
use Rattle.meaning.specs.Meaning.{Meaning}
use Rattle.time_and_sales.specs.Names.{name_of}
use Rattle.day_rows.specs.Messages.{Placed, counted, directory_rows, executions, first_wrong, messages_of, order_rows}
use Rattle.answers.specs.Answers.{DayFault, IsAnswer, IsAnswerToMessages, IsTextOfMessages, IsTextOfSales, Truncated, selected_sales, wrong_length_at}
use Rattle.std.proofs.lemmas.List.{flat_map_more, take_more}

-- the text of the sales that a query asks for is the text that it asks for
pub text_asked : (messages : List Placed) (query : Meaning) (listing : List Sale) (names : ℕ → List ℕ) (text : List ℕ) → listing ≡ selected_sales query messages
    → ((locate : ℕ) → names locate ≡ name_of (directory_rows messages) locate) → IsTextOfSales query.what names listing text
    → IsTextOfMessages query messages text
text_asked messages query listing names text same named is = grind (arith)

-- it answers to messages whose references have no fault
pub text_answers : (messages : List Placed) (query : Meaning) (text : List ℕ) → first_repeated (order_rows messages) ≡ None
    → first_unknown (order_rows messages) (executions messages) ≡ None → IsTextOfMessages query messages text → IsAnswerToMessages messages query (Ok text)
text_answers messages query text no_repeated no_unknown is = grind (arith)

-- a truncated file
pub truncation_answers : (file : List ℕ) (query : Meaning) (place : ℕ) → IsTruncatedAt file place → IsAnswer file query (Err (Truncated place))
truncation_answers file query place truncated = inl (place, truncated, refl)

-- a wrong length
pub wrong_length_answers : (file : List ℕ) (query : Meaning) (frames : List PlacedBody) (wrong : PlacedBody) → StandsFor frames file
    → first_wrong frames ≡ Some wrong → IsAnswer file query (Err (wrong_length_at wrong))
wrong_length_answers file query frames wrong stands is = grind (arith)

-- no wrong length
pub messages_answer : (file : List ℕ) (query : Meaning) (frames : List PlacedBody) (answer : Result (List ℕ) DayFault) → StandsFor frames file
    → first_wrong frames ≡ None → IsAnswerToMessages (counted query.as_of (messages_of frames)) query answer → IsAnswer file query answer
messages_answer file query frames answer stands right is = inr (frames, stands, rw right is)

-- ---- a header and a line for each item of a list, as a loop writes them: one line more

pub line_more : {X : Type 0} (header : List ℕ) (line : X → List ℕ) (items : List X) (i : ℕ) (item : X) {bytes more one : List ℕ} → i < length items
    → bytes ≡ header ++ flat_map line (take i items) → more ≡ bytes ++ one → one ≡ line (get_or items i item)
    → more ≡ header ++ flat_map line (take (i + 1) items)
line_more header line items i item below so_far put is =
    put ∙ ap₂ ◌++◌ so_far is ∙ flat_map_more line header (take i items) (get_or items i item)
    ∙ ap (λ l. header ++ flat_map line l) (sym (take_more items i item below))
