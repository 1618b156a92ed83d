-- The rows that messages give, of a day or of a part of it, as lists.
-- To be believed of a crate used by itself: each list is one of Messages, by which the answer is defined.
use Rattle.std.specs.Prelude.{ℕ, ◌<◌, ◌^◌, List, [], ◌∷◌, ◌++◌, All, Option, Some, None, option_to_list, if◌then◌else◌}
use Rattle.std.specs.List.{flat_map}
use Rattle.std.specs.List.Sorted.{IsStrictlySortedBy}
use Rattle.std.specs.Ordering.{nat_cmp}
use Rattle.itch_messages.specs.declared.message.Message.{Message}
use Rattle.row_types.specs.declared.order.OrderRow.{OrderRow}
use Rattle.row_types.specs.declared.trade.Execution.{Execution}
use Rattle.row_types.specs.declared.trade.Sale.{Sale}
use Rattle.row_types.specs.declared.directory.DirectoryRow.{DirectoryRow}
use Rattle.base.specs.declared.limits.TheConstants.{TIME_LIMIT}
use Rattle.day_rows.specs.declared.row.Row.{Row}
use Rattle.day_rows.specs.declared.row.Row.TheVariants as one
use Rattle.day_rows.specs.Messages.{Placed, is_counted, order_row_at, execution_at, own_priced_at, break_of, directory_row_at}
use Rattle.day_rows.specs.Messages.{order_rows, executions, own_priced_sales, break_numbers, directory_rows}

-- what some messages give, each list in their order
pub record DayRows : Type 0 where
  pub orders : List OrderRow
  pub executions : List Execution
  pub own_priced : List Sale
  pub breaks : List ℕ
  pub directory : List DirectoryRow

-- no rows
abbrev pub no_rows : DayRows
no_rows = record { orders = []; executions = []; own_priced = []; breaks = []; directory = [] }

-- the rows that one row makes, if there is one
abbrev pub told : Option Row → DayRows
told None = no_rows
told (Some (one.Order row)) = record no_rows { orders = row ∷ [] }
told (Some (one.Execution row)) = record no_rows { executions = row ∷ [] }
told (Some (one.Sale row)) = record no_rows { own_priced = row ∷ [] }
told (Some (one.Break trade_no)) = record no_rows { breaks = trade_no ∷ [] }
told (Some (one.Directory row)) = record no_rows { directory = row ∷ [] }

-- what a list of messages gives
abbrev pub rows_of : List Placed → DayRows
rows_of messages = record {
  orders = order_rows messages;
  executions = executions messages;
  own_priced = own_priced_sales messages;
  breaks = break_numbers messages;
  directory = directory_rows messages;
}

-- what one message gives
abbrev pub rows_at : ℕ → Message → DayRows
rows_at place message = record {
  orders = option_to_list (order_row_at place message);
  executions = option_to_list (execution_at place message);
  own_priced = option_to_list (own_priced_at place message);
  breaks = option_to_list (break_of message);
  directory = option_to_list (directory_row_at place message);
}

-- what one message gives if it counts up to the moment, or if there is no moment
abbrev pub counted_rows_at : Option ℕ → ℕ → Message → DayRows
counted_rows_at as_of place message = if is_counted as_of message then rows_at place message else no_rows

-- rows with other rows after them
abbrev pub joined : DayRows → DayRows → DayRows
joined one other = record {
  orders = one.orders ++ other.orders;
  executions = one.executions ++ other.executions;
  own_priced = one.own_priced ++ other.own_priced;
  breaks = one.breaks ++ other.breaks;
  directory = one.directory ++ other.directory;
}

-- the rows of all parts, one part after another
abbrev pub all_rows : List DayRows → DayRows
all_rows parts = record {
  orders = flat_map (λ part. part.orders) parts;
  executions = flat_map (λ part. part.executions) parts;
  own_priced = flat_map (λ part. part.own_priced) parts;
  breaks = flat_map (λ part. part.breaks) parts;
  directory = flat_map (λ part. part.directory) parts;
}

-- each message comes after the one before it
abbrev pub AreByPlace : List Placed → Type 0
AreByPlace messages = IsStrictlySortedBy (λ a b. nat_cmp a.place b.place) messages

-- a time fits six bytes, and a locate two
abbrev pub IsStamped : ℕ → ℕ → Type 0
IsStamped time locate = (time < TIME_LIMIT) × (locate < 2 ^ 16)

-- the times and locates of rows fit in six bytes and two
pub record AreStamped (rows : DayRows) : Type 0 where
  pub executions : All (λ execution. IsStamped execution.time execution.locate) rows.executions
  pub own_priced : All (λ sale. IsStamped sale.time sale.locate) rows.own_priced
