-- Each list of rows stands by place, since the messages do; so no place stands twice in it.
use Rattle.std.proofs.Common.{◌≡◌, ℕ, Bool, List, [], ◌∷◌, ◌++◌, map, nat_eq, Less, arith, Some, false, ap}
use Rattle.std.specs.List.{AllByRecursion, IsDistinct}
use Rattle.std.proofs.lemmas.Bool.Decides.{nat_tests}
use Rattle.std.proofs.lemmas.Map.Keys.{IsDistinct-IsPermutation}
use Rattle.std.specs.List.Sorted.{IsStrictlySortedBy}
use Rattle.std.specs.Ordering.{nat_cmp}
use Rattle.std.proofs.lemmas.List.Kept.{IsStrictlySortedBy-filter}
use Rattle.std.proofs.lemmas.List.Sorted.{IsPermutation-map}
use Rattle.itch_messages.specs.declared.message.Message.{Message}
use Rattle.row_types.specs.declared.order.OrderRow.{OrderRow}
use Rattle.base.proofs.Lists.{IsPermutation-filter}
use Rattle.base.proofs.Order.{sorted-filter_map}
use Rattle.row_types.specs.declared.trade.Execution.{Execution}
use Rattle.row_types.specs.declared.trade.Sale.{Sale}
use Rattle.probe.specs.Pricing.{priced}
use Rattle.probe.specs.Selection.{is_kept, kept}
use Rattle.row_types.specs.SalesByPlace.{place_cmp}
use Rattle.itch_messages.specs.Body.{message_of}
use Rattle.day_file.specs.Frames.{PlacedBody}
use Rattle.day_rows.specs.Messages.{Placed, placed_at, messages_of, order_row_at, execution_at, order_rows, executions, own_priced_sales, break_numbers, trades}
use Rattle.day_rows.specs.DayRows.{AreByPlace}
use Rattle.day_rows.proofs.TradesOfRows.{trades_are_both, trades_by_place}

not_equal : (a b : ℕ) → nat_cmp a b ≡ Less → nat_eq a b ≡ false
not_equal a b h = grind (arith, nat_tests)

pub distinct_places : {X : Type 0} (number : X → ℕ) (xs : List X) → IsStrictlySortedBy (λ a b. nat_cmp (number a) (number b)) xs
    → IsDistinct nat_eq (map number xs)
unfolding IsStrictlySortedBy IsDistinct
distinct_places number [] up = tt
distinct_places {X} number (x ∷ xs) up = (apart xs up.0, distinct_places number xs up.1)
  where
    apart : (ys : List X) → AllByRecursion (λ y. nat_cmp (number x) (number y) ≡ Less) ys → AllByRecursion (λ n. nat_eq (number x) n ≡ false) (map number ys)
    apart [] all = tt
    apart (y ∷ ys) all = (not_equal (number x) (number y) all.0, apart ys all.1)

order_keeps_place : (place : ℕ) (message : Message) (row : OrderRow) → order_row_at place message ≡ Some row → row.place ≡ place
order_keeps_place place message row e = grind arith

execution_keeps_place : (place : ℕ) (message : Message) (row : Execution) → execution_at place message ≡ Some row → row.place ≡ place
execution_keeps_place place message row e = grind arith

pub placed_is : (place : ℕ) (message : Message) (m : Placed) → placed_at place message ≡ Some m → m ≡ record { place = place; message = message }
placed_is place message m e = grind arith

pub orders_distinct : (messages : List Placed) → AreByPlace messages → IsDistinct nat_eq (map (λ row. row.place) (order_rows messages))
orders_distinct messages up = distinct_places (λ (row : OrderRow). row.place) (order_rows messages)
    (sorted-filter_map (λ (m : Placed). m.place) (λ (row : OrderRow). row.place) (λ m. order_row_at m.place m.message)
    (λ m row e. order_keeps_place m.place m.message row e) messages up)

pub executions_distinct : (messages : List Placed) → AreByPlace messages → IsDistinct nat_eq (map (λ row. row.place) (executions messages))
executions_distinct messages up = distinct_places (λ (row : Execution). row.place) (executions messages)
    (sorted-filter_map (λ (m : Placed). m.place) (λ (row : Execution). row.place) (λ m. execution_at m.place m.message)
    (λ m row e. execution_keeps_place m.place m.message row e) messages up)

flips : (x y : ℕ) → nat_eq x y ≡ nat_eq y x
flips x y = grind (arith, nat_tests)

-- what is kept of the sales has no place twice, whatever breaks there are
pub kept_apart : (breaks : List ℕ) (selection : Sale → Bool) (messages : List Placed) → AreByPlace messages → IsDistinct nat_eq (map (λ sale. sale.place)
    (kept breaks selection (priced (order_rows messages) (executions messages) ++ own_priced_sales messages)))
kept_apart breaks selection messages up =
    IsDistinct-IsPermutation nat_eq flips _ _
    (IsPermutation-map (λ (s : Sale). s.place) _ _ (IsPermutation-filter (is_kept breaks selection) _ _ (trades_are_both (order_rows messages) messages)))
    (distinct_places (λ (s : Sale). s.place) (kept breaks selection (trades messages))
    (IsStrictlySortedBy-filter place_cmp (is_kept breaks selection) (trades messages) (trades_by_place messages up)))

pub kept_distinct : (selection : Sale → Bool) (messages : List Placed) → AreByPlace messages → IsDistinct nat_eq (map (λ sale. sale.place)
    (kept (break_numbers messages) selection (priced (order_rows messages) (executions messages) ++ own_priced_sales messages)))
kept_distinct selection messages up = kept_apart (break_numbers messages) selection messages up

-- the messages of frames by place
pub messages_by_place : (frames : List PlacedBody) → IsStrictlySortedBy (λ a b. nat_cmp a.place b.place) frames → AreByPlace (messages_of frames)
messages_by_place frames up =
    sorted-filter_map (λ (f : PlacedBody). f.place) (λ (m : Placed). m.place) (λ f. placed_at f.place (message_of f.body))
    (λ f m e. ap (λ (m : Placed). m.place) (placed_is f.place (message_of f.body) m e)) frames up
