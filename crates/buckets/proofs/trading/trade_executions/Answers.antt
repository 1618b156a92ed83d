use Rattle.std.proofs.Common.{◌≡◌, ℕ, Bool, List, filter, is_none, map, nat_eq, option_map, refl, sym, ap, subst, ◌∙◌, rules}
use Rattle.std.specs.List.{IsDistinct}
use Rattle.base.specs.Least.{least_by}
use Rattle.base.proofs.Lists.{filters_commute, filter_map_on_filter}
use Rattle.row_types.specs.declared.order.OrderRow.{OrderRow}
use Rattle.order_table.specs.Orders.{first_repeated, repeated_of}
use Rattle.order_table.proofs.PartRows.{price_where}
use Rattle.order_list.specs.Filters.{AreNeeded, is_needed}
use Rattle.order_list.proofs.FilteredOrders.{all_pass, distinct_filter, first_repeated_where}
use Rattle.probe.specs.Pricing.{Execution, first_unknown, is_unknown, priced, sale_at, sale_of, unknown_of}
use Rattle.buckets.specs.BucketRows.{rows_of_partitions}
use Rattle.buckets.specs.FoundRows.{kept_of}
use Rattle.buckets.proofs.trading.trade_executions.Goals as goal

module _ (rows needed : List OrderRow) (executions : List Execution)
    (needs : AreNeeded (map (λ execution. execution.order_no) executions) rows needed) where
  abbrev test : ℕ → Bool
  test order_no = is_needed needs.found order_no

  abbrev some : List OrderRow
  some = filter (λ (row : OrderRow). test row.order_no) rows

  abbrev of_it : Execution → Bool
  of_it execution = test execution.order_no

  all_executions : filter of_it executions ≡ executions
  all_executions = all_pass test (λ (execution : Execution). execution.order_no) executions needs.of.needs_executed

  same_repeated : first_repeated needed ≡ first_repeated rows
  same_repeated = ap first_repeated needs.are ∙ first_repeated_where test rows needs.of.needs_repeated

  needed_apart : IsDistinct nat_eq (map (λ (row : OrderRow). row.place) rows) → IsDistinct nat_eq (map (λ (row : OrderRow). row.place) needed)
  needed_apart distinct = rw needs.are (distinct_filter (λ (row : OrderRow). row.place) (λ (row : OrderRow). test row.order_no) rows distinct)

  same_priced : priced needed executions ≡ priced rows executions
  same_priced =
      rw needs.are (ap (priced some) (sym all_executions)
      ∙ filter_map_on_filter (sale_of some) (sale_of rows) of_it
      (λ execution h. ap (option_map (sale_at execution)) (price_where test rows execution.order_no execution.place h)) executions
      ∙ ap (priced rows) all_executions)

  same_unknown : first_unknown needed executions ≡ first_unknown rows executions
  same_unknown =
      rw needs.are (ap (λ l. least_by (λ (execution : Execution). execution.place) l)
      (ap (filter (is_unknown some)) (sym all_executions)
      ∙ filters_commute (is_unknown some) (is_unknown rows) of_it (λ execution h. ap is_none (price_where test rows execution.order_no execution.place h))
      executions
      ∙ sym (filters_commute (is_unknown rows) (is_unknown rows) of_it (λ execution h. refl) executions)
      ∙ ap (filter (is_unknown rows)) all_executions))

pub of_vec-table-requires : goal.of_vec-table-requires
of_vec-table-requires g c =
    let rows = rows_of_partitions c.args.partitions.now in
    needed_apart rows.orders c.in_ok-needed_orders.field-0.items rows.executions (search rules) c.requires.places

pub returns-clause-repeated : goal.returns-clause-repeated
returns-clause-repeated g c =
    let rows = rows_of_partitions c.args.partitions.now in
    c.of_vec-table.ensures.repeated
    ∙ ap (option_map repeated_of) (same_repeated rows.orders c.in_ok-needed_orders.field-0.items rows.executions (search rules))

pub returns-clause-unknown : goal.returns-clause-unknown
returns-clause-unknown g c =
    let rows = rows_of_partitions c.args.partitions.now in
    let needed = c.in_ok-needed_orders.field-0.items in
    c.in_ok-unknown.ensures.unknown needed c.of_vec-table.ensures.table
    ∙ ap (option_map unknown_of) (same_unknown rows.orders needed rows.executions (search rules))

pub returns-clause-sales : goal.returns-clause-sales
returns-clause-sales g c =
    let rows = rows_of_partitions c.args.partitions.now in
    let needed = c.in_ok-needed_orders.field-0.items in
    subst (λ l. g.T.TakesSales.Has (kept_of c.args.bucket.now l) c.take_priced-2.new.into)
    (same_priced rows.orders needed rows.executions (search rules))
    (c.in_ok-unknown.ensures.sales needed c.of_vec-table.ensures.table)
