-- The price of an execution, and the sales of a list of executions.
-- To be believed.
use Rattle.std.specs.Prelude.{◌≡◌, ℕ, Bool, is_none, List, Option, filter, filter_map, option_map}
use Rattle.base.specs.Least.{least_by}
use Rattle.order_table.specs.declared.OrderRow.{OrderRow}
use Rattle.order_table.specs.Orders.{price_before}
pub use Rattle.row_types.specs.declared.trade.Execution.{Execution}
pub use Rattle.row_types.specs.declared.trade.Kind.{Kind}
pub use Rattle.row_types.specs.declared.trade.Sale.{Sale}
pub use Rattle.row_types.specs.declared.trade.Unknown.{Unknown}
use Rattle.row_types.specs.declared.trade.Kind.TheVariants.{E}
use Rattle.probe.specs.declared.pricing.Priced.{Priced}

-- the price of the first row that gives the execution's reference, if that row comes before the execution
abbrev pub price_of : List OrderRow → Execution → Option ℕ
price_of rows execution = price_before rows execution.order_no execution.place

-- the execution has no price
abbrev pub is_unknown : List OrderRow → Execution → Bool
is_unknown rows execution = is_none (price_of rows execution)

-- the execution of least place that has no price
abbrev pub first_unknown : List OrderRow → List Execution → Option Execution
first_unknown rows executions = least_by (λ execution. execution.place) (filter (is_unknown rows) executions)

-- what is reported of an execution that has no price
abbrev pub unknown_of : Execution → Unknown
unknown_of execution = record { place = execution.place; order_no = execution.order_no }

-- the sale of an execution, at a price
abbrev pub sale_at : Execution → ℕ → Sale
sale_at execution price =
    record {
      place = execution.place;
      time = execution.time;
      locate = execution.locate;
      kind = E;
      price = price;
      shares = execution.shares;
      trade_no = execution.trade_no;
    }

-- the sale of an execution, if it has a price
abbrev pub sale_of : List OrderRow → Execution → Option Sale
sale_of rows execution = option_map (sale_at execution) (price_of rows execution)

-- the sales of the executions that have a price, in the list's order
abbrev pub priced : List OrderRow → List Execution → List Sale
priced rows executions = filter_map (sale_of rows) executions

-- the sales and the first execution without a price are those of these executions, priced by these rows
pub record IsPricingOf {A : Type 0} (rows : List OrderRow) (executions : List Execution) (outcome : Priced A)
    : Type 0 where
  pub sales : outcome.sales.items ≡ priced rows executions
  pub unknown : outcome.unknown ≡ option_map unknown_of (first_unknown rows executions)
