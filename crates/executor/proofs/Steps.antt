-- What the steps of `plain` give each other makes the answer.
use Rattle.std.proofs.Common.{◌≡◌, ◌≤◌, ℕ, false, List, [], ◌∷◌, ◌++◌, length, Option, Some, None, Result, Err}
use Rattle.std.proofs.Common.{Bor, IsSome, MatchOption, append_assoc, arith, filter, refl, sym, ap, ◌∙◌, slice_get, subst}
use Rattle.std.proofs.lemmas.Option.{MatchOption-at_some}
use Rattle.itch_messages.specs.Body.{has_wrong_length, message_of}
use Rattle.day_file.specs.Frames.{PlacedBody}
use Rattle.order_table.specs.Orders.{first_repeated}
use Rattle.probe.specs.Pricing.{first_unknown}
use Rattle.meaning.specs.Meaning.{Meaning}
use Rattle.answers.specs.Answers.{DayFault, FaultOr, IsAnswer, IsAnswerToMessages, repeated_at, unknown_at}
use Rattle.answers.proofs.AnswerOfSteps.{messages_answer}
use Rattle.day_rows.specs.DayRows.{counted_rows_at, rows_of}
use Rattle.day_rows.specs.Messages.{Placed, counted, executions, messages_of, order_rows, own_priced_sales}
use Rattle.day_rows.proofs.RowsOfFrames.{rows_more, wrong_more}
use Rattle.morsel_rows.specs.MoreRows.{BecomesJoined}
use Rattle.morsel_rows.specs.Partitions.{MorselRowsView, PartitionView, in_partitions}
use Rattle.morsel_rows.proofs.JoinedPartitions.{one_partition}
use Rattle.executor.specs.Steps.{AreOfDay, AreOfMessages, IfDay, IsReferenceFault}
use Rattle.executor.specs.declared.refused.Refused.{Refused}
use Rattle.executor.specs.declared.refused.Refused.TheVariants.{Day, OutOfMemory}

-- what a loop over frames has collected of the messages that count
pub record IsCollecting (as_of : Option ℕ) (all left : List PlacedBody) (rows : MorselRowsView) : Type 0 where
  pub front : List PlacedBody
  pub split : all ≡ front ++ left
  pub none : filter (λ f. has_wrong_length f.body) front ≡ []
  pub are : rows ≡ in_partitions 1 (rows_of (counted as_of (messages_of front)))

-- one frame more, whose length is right
pub collects : (as_of : Option ℕ) (all left : List PlacedBody) (frame : PlacedBody) (rest : List PlacedBody) (old new : MorselRowsView)
    → IsCollecting as_of all left old → left ≡ frame ∷ rest → has_wrong_length frame.body ≡ false
    → BecomesJoined (counted_rows_at as_of frame.place (message_of frame.body)) old new → IsCollecting as_of all rest new
collects as_of all left frame rest old new so_far step right added = record {
  front = so_far.front ++ frame ∷ [];
  split = so_far.split ∙ ap (λ l. so_far.front ++ l) step ∙ sym (append_assoc so_far.front (frame ∷ []) rest);
  none = wrong_more so_far.front frame so_far.none right;
  are = added 1 (rows_of (counted as_of (messages_of so_far.front))) (omega arith) so_far.are ∙ ap (in_partitions 1) (sym (rows_more as_of so_far.front frame));
}

-- there is a partition, and it has all rows
pub has_partition : {X : Type 0} {rows : MorselRowsView} (messages : List Placed) (found : Option X) (P : X → Type 0) → AreOfMessages messages rows
    → MatchOption found (length rows.partitions ≤ 0) P → IsSome found
has_partition {rows = rows} messages None P of none =
    let one : length rows.partitions ≡ 1 = ap (λ (v : MorselRowsView). length v.partitions) of.are in absurd (omega (arith, one, none))
has_partition messages (Some x) P of is = refl

pub whole_partition : {rows : MorselRowsView} (messages : List Placed) (found : Option (Bor PartitionView)) (all : Bor PartitionView)
    → AreOfMessages messages rows → MatchOption found (length rows.partitions ≤ 0) (λ one. slice_get rows.partitions 0 ≡ Some one.now) → found ≡ Some all
    → all.now ≡ record { orders = order_rows messages; executions = executions messages; own_priced = own_priced_sales messages }
whole_partition {rows} messages found all of is some =
    one_partition (rows_of messages) all.now (ap (λ (v : MorselRowsView). slice_get v.partitions 0) (sym of.are)
    ∙ MatchOption-at_some (length rows.partitions ≤ 0) (λ one. slice_get rows.partitions 0 ≡ Some one.now) all some is)

-- what follows of the day's fault
pub on_day : (refused : Refused) (P Q : DayFault → Type 0) → ((fault : DayFault) → P fault → Q fault) → IfDay refused P → IfDay refused Q
on_day (Day fault) P Q follows p = follows fault p
on_day OutOfMemory P Q follows p = tt

-- what follows of what there is where there is no fault
or_weaker : {X : Type 0} (found : Option X) (fault_of : X → DayFault) (answer : Result (List ℕ) DayFault) (P Q : Type 0) → (P → Q)
    → FaultOr found fault_of answer P → FaultOr found fault_of answer Q
or_weaker None fault_of answer P Q follows p = follows p
or_weaker (Some x) fault_of answer P Q follows e = e

-- what is told of a fault in the references answers to the messages that they are of
pub fault_answers : (messages : List Placed) (query : Meaning) (fault : DayFault) → IsReferenceFault (order_rows messages) (executions messages) fault
    → IsAnswerToMessages messages query (Err fault)
fault_answers messages query fault =
    or_weaker (first_repeated (order_rows messages)) repeated_at (Err fault) _ _
    (or_weaker (first_unknown (order_rows messages) (executions messages)) unknown_at (Err fault) ⊥ _ (λ none. absurd none))

-- what answers to the messages that count answers to the file that they are of
pub day_answers : {file other : List ℕ} {as_of : Option ℕ} {rows : MorselRowsView} (query : Meaning) (answer : Result (List ℕ) DayFault)
    (of : AreOfDay file as_of rows) → file ≡ other → as_of ≡ query.as_of → IsAnswerToMessages of.messages query answer → IsAnswer other query answer
day_answers query answer of same moment answers =
    let frames = of.has.frames in
    subst (λ file. IsAnswer file query answer) same
    (messages_answer _ query frames answer of.has.stands of.has.right
    (subst (λ messages. IsAnswerToMessages messages query answer) (sym of.has.are ∙ ap (λ as_of. counted as_of (messages_of frames)) moment) answers))
