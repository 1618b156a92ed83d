-- What all buckets of a message list have found is what the whole list has: its faults, and its sales in some order.
use Rattle.std.proofs.Common.{◌≡◌, ℕ, ◌<◌, ◌+◌, Bool, List, ◌++◌, All, Option, option_map, filter, flat_map, length, map, IsPermutation, refl, sym, ap, ◌∙◌}
use Rattle.std.proofs.Common.{subst, arith, not, ◌&&◌, ltb, length-append}
use Rattle.std.proofs.lemmas.Simd.{map-map}
use Rattle.std.proofs.lemmas.List.Elements.{All-filter}
use Rattle.std.proofs.lemmas.List.Folds.{flat_map-map}
use Rattle.std.proofs.lemmas.List.Sorted.{All-permutation, IsPermutation-append, IsPermutation-sym, IsPermutation-trans, length_permutation}
use Rattle.base.specs.Least.{least_by, numbers_below, part}
use Rattle.base.specs.declared.limits.TheConstants.{TRADE_LIMIT}
use Rattle.base.proofs.Least.{least_by-map}
use Rattle.base.proofs.Lists.{filter-flat_map, filter_map-flat_map, filter_map-map, filter_map-option_map, IsPermutation-both, IsPermutation-filter}
use Rattle.base.proofs.Lists.{IsPermutation-filter_map}
use Rattle.base.proofs.Order.{TellsApart-from_distinct}
use Rattle.base.proofs.Parts.{parts_are_all}
use Rattle.time_and_sales.specs.Lent.{all_sales}
use Rattle.order_table.specs.Orders.{OrderRow, first_repeated, repeated_of}
use Rattle.order_table.specs.declared.table.Repeated.{Repeated}
use Rattle.order_table.proofs.PartRows.{repeated_of_parts}
use Rattle.probe.specs.Pricing.{Execution, Sale, Unknown, first_unknown, priced, sale_of, unknown_of}
use Rattle.probe.specs.Selection.{admits}
use Rattle.probe.specs.Selection.{is_kept, kept}
use Rattle.probe.proofs.KeptSales.{length-kept, length-priced}
use Rattle.probe.proofs.PricedExecutions.{first_unknown_of_parts, priced_in_part}
use Rattle.time_and_sales.proofs.SortedByPlace.{differ_in_order}
use Rattle.meaning.specs.Meaning.{Meaning}
use Rattle.answers.specs.Answers.{asks_for}
use Rattle.day_rows.specs.DayRows.{AreByPlace, AreStamped, DayRows, IsStamped, rows_of}
use Rattle.day_rows.specs.Messages.{Placed, break_numbers, directory_rows, executions, order_rows, own_priced_sales}
use Rattle.day_rows.proofs.RowsByPlace.{executions_distinct, kept_distinct, orders_distinct}
use Rattle.answers.proofs.SelectedSales.{keeps_asked}
use Rattle.day_rows.proofs.Stamped.{fits_all}
use Rattle.morsel_rows.specs.Partitions.{partition_of}
use Rattle.buckets.specs.FoundRows.{FoundView, sales_in}
use Rattle.buckets.specs.Products.{product_of}
use Rattle.planning.specs.AllBuckets.{AreProductsOf, Product, found_in}
use Rattle.buckets.specs.Plans.{rising, selection_of}
use Rattle.planning.proofs.PlannedLists.{rising_among, selection_agrees}

-- ---- faults

pub repeated_found : (n : ℕ) (query : Meaning) (messages : List Placed) → 0 < n → AreByPlace messages
    → (found_in n query messages).repeated ≡ option_map repeated_of (first_repeated (order_rows messages))
repeated_found n query messages some up =
    ap (least_by (λ (r : Repeated). r.place)) (filter_map-map (λ (f : FoundView). f.repeated) _ (numbers_below n))
    ∙ repeated_of_parts n (order_rows messages) some
    (TellsApart-from_distinct (λ (row : OrderRow). row.place) (order_rows messages) (orders_distinct messages up))

pub unknown_found : (n : ℕ) (query : Meaning) (messages : List Placed) → 0 < n → AreByPlace messages
    → (found_in n query messages).unknown ≡ option_map unknown_of (first_unknown (order_rows messages) (executions messages))
unknown_found n query messages some up =
    let told : ℕ → Option Execution = λ b. first_unknown (part n (λ (row : OrderRow). row.order_no) (order_rows messages) b) (part n (λ
    (execution : Execution). execution.order_no) (executions messages) b) in
    ap (least_by (λ (u : Unknown). u.place)) (filter_map-map (λ (f : FoundView). f.unknown) _ (numbers_below n))
    ∙ ap (least_by (λ (u : Unknown). u.place)) (filter_map-option_map unknown_of told (numbers_below n))
    ∙ least_by-map (λ (execution : Execution). execution.place) (λ (u : Unknown). u.place) unknown_of (λ execution. refl) _
    ∙ ap (option_map unknown_of) (first_unknown_of_parts n (order_rows messages) (executions messages) some
    (TellsApart-from_distinct (λ (execution : Execution). execution.place) (executions messages) (executions_distinct messages up)))

-- ---- sales

-- what is kept of each bucket
abbrev pub lists_in : ℕ → Meaning → List Placed → List (List Sale)
lists_in n query messages =
    map (λ b. sales_in (rising (break_numbers messages)) (admits (selection_of query (directory_rows messages))) (partition_of n (rows_of messages) b))
    (numbers_below n)

pub products_found : (n : ℕ) (query : Meaning) (messages : List Placed)
    → (found_in n query messages).products ≡ map (product_of query.what) (lists_in n query messages)
products_found n query messages = map-map _ _ (numbers_below n) ∙ sym (map-map _ _ (numbers_below n))

-- what is kept of all buckets is, in some order, what is kept of all rows
sales_of_parts : (n : ℕ) (breaks : List ℕ) (asked : Sale → Bool) (rows : DayRows) → 0 < n
    → IsPermutation (all_sales (map (λ b. sales_in breaks asked (partition_of n rows b)) (numbers_below n)))
    (kept breaks asked (priced rows.orders rows.executions ++ rows.own_priced))
sales_of_parts n breaks asked rows some =
    let k = is_kept breaks asked in
    let G : ℕ → List Sale = λ b. priced rows.orders (part n (λ (execution : Execution). execution.order_no) rows.executions b) in
    let H : ℕ → List Sale = λ b. part n (λ (sale : Sale). sale.place) rows.own_priced b in
    let bs = numbers_below n in
    let inside : all_sales (map (λ b. sales_in breaks asked (partition_of n rows b)) bs) ≡ filter k (flat_map (λ b. G b ++ H b) bs) =
    flat_map-map (λ (sales : List Sale). sales) (λ b. sales_in breaks asked (partition_of n rows b)) bs
    ∙ (λ i. flat_map (λ b. filter k (priced_in_part n b rows.orders rows.executions i ++ H b)) bs)
    ∙ sym (filter-flat_map k (λ b. G b ++ H b) bs) in
    let gs : IsPermutation (flat_map G bs) (priced rows.orders rows.executions) =
    subst (λ l. IsPermutation l (priced rows.orders rows.executions)) (filter_map-flat_map (sale_of rows.orders) (part n (λ
    (execution : Execution). execution.order_no) rows.executions) bs)
    (IsPermutation-filter_map (sale_of rows.orders) _ _
    (IsPermutation-sym _ _ (parts_are_all n (λ (execution : Execution). execution.order_no) rows.executions some))) in
    let hs : IsPermutation (flat_map H bs) rows.own_priced =
    IsPermutation-sym _ _ (parts_are_all n (λ (sale : Sale). sale.place) rows.own_priced some) in
    let together = IsPermutation-trans _ _ _ (IsPermutation-both G H bs) (IsPermutation-append _ _ _ _ gs hs) in
    rw inside (IsPermutation-filter k _ _ together)

-- all from which what is listed is kept
abbrev every : List Placed → List Sale
every messages = priced (order_rows messages) (executions messages) ++ own_priced_sales messages

every_fits : (messages : List Placed) → AreStamped (rows_of messages) → All (λ (s : Sale). IsStamped s.time s.locate) (every messages)
every_fits messages stamped = fits_all (order_rows messages) (executions messages) (own_priced_sales messages) stamped.executions stamped.own_priced

-- the breaks in rising order keep what the breaks keep
kept_rising : (breaks : List ℕ) (asked : Sale → Bool) (sales : List Sale) → kept (rising breaks) asked sales ≡ kept breaks asked sales
kept_rising breaks asked sales =
    λ i. filter (λ (sale : Sale). not (rising_among breaks sale.trade_no i) && (asked sale && ltb 0 sale.shares)) sales

-- so the buckets list, in some order, what the query asks for
pub lists_are : (n : ℕ) (query : Meaning) (messages : List Placed) → 0 < n → AreStamped (rows_of messages)
    → IsPermutation (all_sales (lists_in n query messages))
    (kept (break_numbers messages) (asks_for query (directory_rows messages)) (every messages))
lists_are n query messages some stamped =
    let asked = admits (selection_of query (directory_rows messages)) in
    subst (IsPermutation (all_sales (lists_in n query messages)))
    (kept_rising (break_numbers messages) asked (every messages)
    ∙ keeps_asked (break_numbers messages) asked (asks_for query (directory_rows messages)) (every messages)
    (selection_agrees query (directory_rows messages)) (every_fits messages stamped))
    (sales_of_parts n (rising (break_numbers messages)) asked (rows_of messages) some)

-- and they can be listed together
pub lists_listed : (n : ℕ) (query : Meaning) (messages : List Placed) (products : List Product) → 0 < n → AreByPlace messages
    → AreStamped (rows_of messages) → length (executions messages) + length (own_priced_sales messages) < TRADE_LIMIT
    → products ≡ (found_in n query messages).products → AreProductsOf query.what (lists_in n query messages) products
lists_listed n query messages products some up stamped few is =
    let asked = asks_for query (directory_rows messages) in
    let all = kept (break_numbers messages) asked (every messages) in
    let are = lists_are n query messages some stamped in
    let back = IsPermutation-sym _ _ are in
    record {
      apart = differ_in_order _ _ back (kept_distinct asked messages up);
      few = grind (arith, length_permutation _ _ are, length-kept (break_numbers messages) asked (every messages), length-append, length-priced);
      stamped = All-permutation (λ (s : Sale). IsStamped s.time s.locate) _ _ back
          (All-filter (is_kept (break_numbers messages) asked) (λ (s : Sale). IsStamped s.time s.locate) (every messages) (every_fits messages stamped));
      are = is ∙ products_found n query messages;
    }
