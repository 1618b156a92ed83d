-- The answer to a query over a day file: the file's one fault, or the text made of all its messages that count.
-- To be believed.
use Rattle.std.specs.Prelude.{◌≡◌, ℕ, Bool, true, ◌&&◌, List, All, Option, None, Result, Ok, Err, MatchOption, ◌⊎◌}
use Rattle.itch_messages.specs.Body.{length_fault_of}
use Rattle.day_file.specs.Frames.{PlacedBody, StandsFor, IsTruncatedAt}
use Rattle.order_table.specs.Orders.{OrderRow, first_repeated}
use Rattle.probe.specs.Pricing.{Execution, Sale, first_unknown}
use Rattle.probe.specs.Selection.{has_kind, has_time, kept}
use Rattle.time_and_sales.specs.Names.{DirectoryRow, name_of}
use Rattle.time_and_sales.specs.Texts.{listing_text}
use Rattle.bars.specs.Bars.{AreBarsOf}
use Rattle.bar.specs.declared.bar.Bar.{Bar}
use Rattle.bars.specs.Texts.{bars_text}
use Rattle.meaning.specs.Meaning.{Meaning}
use Rattle.meaning.specs.declared.query.What.TheVariants.{Bars, Sales}
use Rattle.meaning.specs.declared.query.What.{What}
use Rattle.meaning.specs.Selected.{has_name}
use Rattle.day_rows.specs.Messages.{Placed, break_numbers, counted, directory_rows, executions, first_wrong, is_counted, messages_of, order_rows, trades}
use Rattle.answers.specs.declared.answer.Answer.{Answer}
use Rattle.answers.specs.declared.answer.Answer.TheVariants.{Printed, Faulty}
pub use Rattle.outcomes.specs.declared.day_fault.DayFault.{DayFault}
pub use Rattle.outcomes.specs.declared.day_fault.DayFault.TheVariants.{Truncated, WrongLength, RepeatedReference}
pub use Rattle.outcomes.specs.declared.day_fault.DayFault.TheVariants.{UnknownReference}

-- ---- what is asked for

-- a query asks for a sale: its name is among the symbols, its time in the span and its kind admitted
abbrev pub asks_for : Meaning → List DirectoryRow → Sale → Bool
asks_for query rows sale =
    has_name query.symbols (name_of rows sale.locate)
    && (has_time query.span sale.time && has_kind query.kinds sale.kind)

-- the trades of more than zero shares that no break names and that the query asks for, in the order of the messages
abbrev pub selected_sales : Meaning → List Placed → List Sale
selected_sales query messages =
    kept (break_numbers messages) (asks_for query (directory_rows messages)) (trades messages)

-- ---- the text

-- a header line, then a line for each sale, or for each bar of the sales
abbrev pub IsTextOfSales : What → (ℕ → List ℕ) → List Sale → List ℕ → Type 0
IsTextOfSales Sales names sales text = text ≡ listing_text names sales
IsTextOfSales (Bars width) names sales text =
    (table : List Bar) × AreBarsOf width sales table × (text ≡ bars_text names table)

-- the text that a query asks for of a message list
abbrev pub IsTextOfMessages : Meaning → List Placed → List ℕ → Type 0
IsTextOfMessages query messages text =
    IsTextOfSales query.what (name_of (directory_rows messages)) (selected_sales query messages) text

-- ---- the answer: a text, or a fault

-- an answer: the fault that there is, if there is one, and else what the rest says
abbrev pub FaultOr : {X : Type 0} → Option X → (X → DayFault) → Result (List ℕ) DayFault → Type 0 → Type 0
FaultOr found fault_of answer rest = MatchOption found rest (λ x. answer ≡ Err (fault_of x))

-- what is reported of an order reference that is given again
abbrev pub repeated_at : OrderRow → DayFault
repeated_at repeated = RepeatedReference repeated.place repeated.order_no

-- what is reported of an execution whose order no message before it gives
abbrev pub unknown_at : Execution → DayFault
unknown_at unknown = UnknownReference unknown.place unknown.order_no

-- over messages: the first order reference that is given again; else the first that an execution names and no
-- message before it gives; else the text that is asked for
abbrev pub IsAnswerToMessages : List Placed → Meaning → Result (List ℕ) DayFault → Type 0
IsAnswerToMessages messages query answer =
    FaultOr (first_repeated (order_rows messages)) repeated_at answer
    (FaultOr (first_unknown (order_rows messages) (executions messages)) unknown_at answer
    ((text : List ℕ) × IsTextOfMessages query messages text × (answer ≡ Ok text)))

-- what is reported of a frame whose length is wrong
abbrev pub wrong_length_at : PlacedBody → DayFault
wrong_length_at frame =
    let fault = length_fault_of frame.body in
    WrongLength frame.place fault.kind fault.length fault.wanted

-- over frames: the first wrong length, whatever the moment; else what answers to the messages that count
abbrev pub IsAnswerToFrames : List PlacedBody → Meaning → Result (List ℕ) DayFault → Type 0
IsAnswerToFrames frames query answer =
    FaultOr (first_wrong frames) wrong_length_at answer
    (IsAnswerToMessages (counted query.as_of (messages_of frames)) query answer)

-- over a file: its truncation; else what answers to its frames. No file has both, as day_file's `one_reading`
-- says; and no file and query have two answers, as `one_answer` says.
abbrev pub IsAnswer : List ℕ → Meaning → Result (List ℕ) DayFault → Type 0
IsAnswer file query answer =
    ((place : ℕ) × IsTruncatedAt file place × (answer ≡ Err (Truncated place)))
    ⊎ ((frames : List PlacedBody) × StandsFor frames file × IsAnswerToFrames frames query answer)

-- what an answer of the code says: a text, or a fault
abbrev pub told_by : {A : Type 0} → Answer A → Result (List ℕ) DayFault
told_by (Printed text) = Ok text
told_by (Faulty fault) = Err fault

-- ---- what the laws of moments speak of

-- no message of a file is past a moment
abbrev pub NoneIsPast : Option ℕ → List ℕ → Type 0
NoneIsPast as_of file =
    (frames : List PlacedBody) → StandsFor frames file →
    All (λ m. is_counted as_of m.message ≡ true) (messages_of frames)

-- a file is whole, each of its lengths is right, and of its messages these count
pub record HasCounted (as_of : Option ℕ) (file : List ℕ) (messages : List Placed) : Type 0 where
  pub frames : List PlacedBody
  pub stands : StandsFor frames file
  pub right : first_wrong frames ≡ None
  pub are : counted as_of (messages_of frames) ≡ messages
