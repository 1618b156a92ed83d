-- The rows of a partition are the rows of the messages that go there.
use Rattle.std.proofs.Common.{◌≡◌, ℕ, ◌<◌, ◌+◌, ◌^◌, ◌%◌, ◌==◌, All, Bool, true, false, cond, List, [], ◌∷◌, Option, Some, None, length, filter, filter_map, refl}
use Rattle.std.proofs.Common.{ap, ◌∙◌, arith}
use Rattle.std.specs.List.{cons_option}
use Rattle.std.specs.List.Sorted.{IsStrictlySortedBy}
use Rattle.std.specs.Ordering.{nat_cmp}
use Rattle.std.proofs.lemmas.List.Elements.{All-filter, All-nil}
use Rattle.std.proofs.lemmas.List.Kept.{IsStrictlySortedBy-filter}
use Rattle.itch_messages.specs.declared.message.Message.{Message}
use Rattle.itch_messages.specs.declared.message.Message.TheVariants.{Add, Executed, Replace}
use Rattle.base.specs.Least.{part}
use Rattle.base.specs.declared.limits.TheConstants.{TIME_LIMIT, TRADE_LIMIT}
use Rattle.row_types.specs.declared.order.OrderRow.{OrderRow}
use Rattle.row_types.specs.declared.trade.Execution.{Execution}
use Rattle.row_types.specs.declared.trade.Sale.{Sale}
use Rattle.day_rows.specs.DayRows.{AreByPlace, rows_of}
use Rattle.day_rows.specs.Messages.{Placed, order_row_at, execution_at, own_priced_at, executions, own_priced_sales}
use Rattle.day_rows.proofs.CountedMessages.{fewer_of_filter}
use Rattle.morsel_rows.specs.Partitions.{AreRowsByPlace, no_rows_in, partition_of}

-- the number by which a message's rows go to a partition: the order reference, or the place
abbrev number_at : ℕ → Message → ℕ
number_at place (Add add) = add.order_no
number_at place (Executed executed) = executed.order_no
number_at place (Replace replace) = replace.new_no
number_at place _ = place

abbrev goes_to : ℕ → ℕ → Placed → Bool
goes_to n b m = number_at m.place m.message % n == b

module _ {Y : Type 0} (n b : ℕ) (number : Y → ℕ) (give : ℕ → Message → Option Y)
    (same : (place : ℕ) (message : Message) (y : Y) → give place message ≡ Some y → number y ≡ number_at place message) where
  step : (m : Placed) (o : Option Y) → give m.place m.message ≡ o → (c : Bool) → goes_to n b m ≡ c → (xs ys : List Y) → part n number xs b ≡ ys
      → part n number (cons_option o xs) b ≡ cond c (cons_option o ys) ys
  step m None e true f xs ys more = more
  step m None e false f xs ys more = more
  step m (Some y) e c f xs ys more =
      ap (λ t. cond t (y ∷ part n number xs b) (part n number xs b)) (ap (λ k. k % n == b) (same m.place m.message y e) ∙ f)
      ∙ ap (λ l. cond c (y ∷ l) l) more

  once : (c : Bool) (m : Placed) (ms : List Placed)
      → cond c (cons_option (give m.place m.message) (filter_map (λ (p : Placed). give p.place p.message) ms)) (filter_map (λ
      (p : Placed). give p.place p.message) ms)
      ≡ filter_map (λ (p : Placed). give p.place p.message) (cond c (m ∷ ms) ms)
  once true m ms = refl
  once false m ms = refl

  -- the rows in a partition are those of its messages
  part_of_given : (messages : List Placed)
      → part n number (filter_map (λ (p : Placed). give p.place p.message) messages) b
      ≡ filter_map (λ (p : Placed). give p.place p.message) (filter (goes_to n b) messages)
  part_of_given [] = refl
  part_of_given (m ∷ ms) =
      step m (give m.place m.message) refl (goes_to n b m) refl (filter_map (λ (p : Placed). give p.place p.message) ms) _ (part_of_given ms)
      ∙ once (goes_to n b m) m (filter (goes_to n b) ms)

order_number : (place : ℕ) (message : Message) (row : OrderRow) → order_row_at place message ≡ Some row → row.order_no ≡ number_at place message
order_number place message row e = grind arith

execution_number : (place : ℕ) (message : Message) (row : Execution) → execution_at place message ≡ Some row → row.order_no ≡ number_at place message
execution_number place message row e = grind arith

own_number : (place : ℕ) (message : Message) (sale : Sale) → own_priced_at place message ≡ Some sale → sale.place ≡ number_at place message
own_number place message sale e = grind arith

-- a partition of messages has the rows of some of them
pub partition_by_place : (n b : ℕ) (messages : List Placed) → AreByPlace messages
    → length (executions messages) + length (own_priced_sales messages) < TRADE_LIMIT
    → All (λ execution. (execution.time < TIME_LIMIT) × (execution.place < 2 ^ 48)) (executions messages)
    → All (λ sale. (sale.time < TIME_LIMIT) × (sale.place < 2 ^ 48)) (own_priced_sales messages)
    → AreRowsByPlace (partition_of n (rows_of messages) b)
partition_by_place n b messages up few executions_fit own_priced_fit =
    let executed_are = part_of_given n b (λ (row : Execution). row.order_no) execution_at execution_number messages in
    let own_are = part_of_given n b (λ (sale : Sale). sale.place) own_priced_at own_number messages in
    record {
      messages = filter (goes_to n b) messages;
      by_place = IsStrictlySortedBy-filter (λ (x y : Placed). nat_cmp x.place y.place) (goes_to n b) messages up;
      orders = part_of_given n b (λ (row : OrderRow). row.order_no) order_row_at order_number messages;
      executions = executed_are;
      own_priced = own_are;
      few = omega (
        arith,
        few,
        ap length executed_are,
        ap length own_are,
        fewer_of_filter (λ (m : Placed). execution_at m.place m.message) (goes_to n b) messages,
        fewer_of_filter (λ (m : Placed). own_priced_at m.place m.message) (goes_to n b) messages,
      );
      executions_fit = All-filter (λ (row : Execution). row.order_no % n == b)
          (λ (row : Execution). (row.time < TIME_LIMIT) × (row.place < 2 ^ 48)) (executions messages) executions_fit;
      own_priced_fit = All-filter (λ (sale : Sale). sale.place % n == b)
          (λ (sale : Sale). (sale.time < TIME_LIMIT) × (sale.place < 2 ^ 48)) (own_priced_sales messages) own_priced_fit;
    }

-- and so has no row at all
pub no_rows_by_place : AreRowsByPlace no_rows_in
unfolding IsStrictlySortedBy
no_rows_by_place = record {
  messages = [];
  by_place = tt;
  orders = refl;
  executions = refl;
  own_priced = refl;
  few = omega arith;
  executions_fit = All-nil _;
  own_priced_fit = All-nil _;
}
