-- The trades of a message list are, by place, the priced executions and the sales with a price of their own.
use Rattle.std.proofs.Common.{◌≡◌, ℕ, Bool, List, ◌++◌, arith, Some, option_to_list, filter_map, flat_map, IsPermutation, sym, ap, ap₂, ◌∙◌, subst}
use Rattle.std.specs.List.Sorted.{IsStrictlySortedBy}
use Rattle.std.proofs.lemmas.Cmp.{nat_cmp_total, on_total}
use Rattle.std.proofs.lemmas.List.Kept.{IsStrictlySortedBy-filter}
use Rattle.std.proofs.lemmas.List.Sorted.{IsPermutation-sym, IsPermutation-trans}
use Rattle.itch_messages.specs.declared.message.Message.{Message}
use Rattle.row_types.specs.declared.order.OrderRow.{OrderRow}
use Rattle.base.proofs.Lists.{filter_map_as_flat_map, filter_map-flat_map, IsPermutation-filter, IsPermutation-both}
use Rattle.base.proofs.Order.{same_from_permutation, sorted-filter_map}
use Rattle.row_types.specs.declared.trade.Sale.{Sale}
use Rattle.probe.specs.Pricing.{sale_of, priced}
use Rattle.probe.specs.Selection.{is_kept, kept}
use Rattle.row_types.specs.SalesByPlace.{place_cmp}
use Rattle.day_rows.specs.Messages.{Placed, execution_at, own_priced_at, order_rows, executions, own_priced_sales, break_numbers, trade_at, trades}
use Rattle.day_rows.specs.DayRows.{AreByPlace}

one_trade : (rows : List OrderRow) (place : ℕ) (message : Message) → option_to_list (trade_at rows place message)
    ≡ filter_map (sale_of rows) (option_to_list (execution_at place message)) ++ option_to_list (own_priced_at place message)
one_trade rows place message = grind arith

-- the trades are the priced executions and the sales with a price of their own
pub trades_are_both : (rows : List OrderRow) (messages : List Placed)
    → IsPermutation (filter_map (λ (m : Placed). trade_at rows m.place m.message) messages) (priced rows (executions messages) ++ own_priced_sales messages)
trades_are_both rows messages =
    let f : Placed → List Sale = λ m. filter_map (sale_of rows) (option_to_list (execution_at m.place m.message)) in
    let g : Placed → List Sale = λ m. option_to_list (own_priced_at m.place m.message) in
    let whole : filter_map (λ (m : Placed). trade_at rows m.place m.message) messages ≡ flat_map (λ m. f m ++ g m) messages =
    filter_map_as_flat_map _ messages ∙ (λ i. flat_map (λ m. one_trade rows m.place m.message i) messages) in
    let first : flat_map f messages ≡ priced rows (executions messages) =
    sym (filter_map-flat_map (sale_of rows) (λ m. option_to_list (execution_at m.place m.message)) messages)
    ∙ ap (filter_map (sale_of rows)) (sym (filter_map_as_flat_map (λ m. execution_at m.place m.message) messages)) in
    let second : flat_map g messages ≡ own_priced_sales messages = sym (filter_map_as_flat_map (λ m. own_priced_at m.place m.message) messages) in
    rw whole (subst (IsPermutation (flat_map (λ m. f m ++ g m) messages)) (ap₂ ◌++◌ first second) (IsPermutation-both f g messages))

trade_keeps_place : (rows : List OrderRow) (place : ℕ) (message : Message) (sale : Sale) → trade_at rows place message ≡ Some sale → sale.place ≡ place
trade_keeps_place rows place message sale e = grind arith

-- the trades stand by place, since the messages do
pub trades_by_place : (messages : List Placed) → AreByPlace messages → IsStrictlySortedBy place_cmp (trades messages)
trades_by_place messages up =
    sorted-filter_map (λ (m : Placed). m.place) (λ (s : Sale). s.place) (λ m. trade_at (order_rows messages) m.place m.message)
    (λ m sale e. trade_keeps_place (order_rows messages) m.place m.message sale e) messages up

-- so do the sales
pub sales_by_place : (selection : Sale → Bool) (messages : List Placed) → AreByPlace messages
    → IsStrictlySortedBy place_cmp (kept (break_numbers messages) selection (trades messages))
sales_by_place selection messages up = IsStrictlySortedBy-filter place_cmp _ (trades messages) (trades_by_place messages up)

-- what is kept of the priced executions and the sales with a price of their own is, in some order, the sales
pub kept_are_sales : (selection : Sale → Bool) (messages : List Placed)
    → IsPermutation (kept (break_numbers messages) selection (priced (order_rows messages) (executions messages) ++ own_priced_sales messages))
    (kept (break_numbers messages) selection (trades messages))
kept_are_sales selection messages =
    IsPermutation-filter (is_kept (break_numbers messages) selection) _ _ (IsPermutation-sym _ _ (trades_are_both (order_rows messages) messages))

-- so that list by place is the sales
pub listing_is : (selection : Sale → Bool) (messages : List Placed) (listing : List Sale) → AreByPlace messages → IsStrictlySortedBy place_cmp listing
    → IsPermutation (kept (break_numbers messages) selection (priced (order_rows messages) (executions messages) ++ own_priced_sales messages)) listing
    → listing ≡ kept (break_numbers messages) selection (trades messages)
listing_is selection messages listing up rising h =
    same_from_permutation place_cmp (on_total (λ (s : Sale). s.place) nat_cmp_total) listing (kept (break_numbers messages) selection (trades messages))
    rising (sales_by_place selection messages up)
    (IsPermutation-trans _ _ _ (IsPermutation-sym _ _ h) (kept_are_sales selection messages))
