-- What the steps of `plain` give each other.
-- Derived: no public clause cites it.
use Rattle.std.specs.Prelude.{◌≡◌, ℕ, ◌<◌, ◌+◌, ◌++◌, List, All, Option, None, Err, length}
use Rattle.base.specs.declared.limits.TheConstants.{TRADE_LIMIT}
use Rattle.order_table.specs.Orders.{OrderRow, first_repeated}
use Rattle.probe.specs.Pricing.{Execution, Sale, first_unknown, priced}
use Rattle.answers.specs.Answers.{DayFault, FaultOr, HasCounted, repeated_at, unknown_at}
use Rattle.day_rows.specs.DayRows.{AreByPlace, AreStamped, IsStamped, rows_of}
use Rattle.day_rows.specs.Messages.{Placed, executions, order_rows, own_priced_sales}
use Rattle.morsel_rows.specs.Partitions.{MorselRowsView, in_partitions}
use Rattle.executor.specs.declared.refused.Refused.{Refused}
use Rattle.executor.specs.declared.refused.Refused.TheVariants.{Day, OutOfMemory}

-- P of the day's fault; nothing is said if memory was refused
abbrev pub IfDay : Refused → (DayFault → Type 0) → Type 0
IfDay (Day fault) P = P fault
IfDay OutOfMemory P = Unit {0}

-- the rows of some messages, by place, in one partition
pub record AreOfMessages (messages : List Placed) (rows : MorselRowsView) : Type 0 where
  pub by_place : AreByPlace messages
  pub are : rows ≡ in_partitions 1 (rows_of messages)
  pub stamped : AreStamped (rows_of messages)
  pub few : length (executions messages) + length (own_priced_sales messages) < TRADE_LIMIT

-- the rows of the messages of a whole file that count, all of whose lengths are right
pub record AreOfDay (file : List ℕ) (as_of : Option ℕ) (rows : MorselRowsView) : Type 0 where
  pub messages : List Placed
  pub has : HasCounted as_of file messages
  pub of : AreOfMessages messages rows

-- the trades of messages in whose references there is no fault
pub record AreTradesOf (messages : List Placed) (trades : List Sale) : Type 0 where
  pub repeated : first_repeated (order_rows messages) ≡ None
  pub unknown : first_unknown (order_rows messages) (executions messages) ≡ None
  pub are : trades ≡ priced (order_rows messages) (executions messages) ++ own_priced_sales messages
  pub stamped : All (λ sale. IsStamped sale.time sale.locate) trades

-- the first fault in the references
abbrev pub IsReferenceFault : List OrderRow → List Execution → DayFault → Type 0
IsReferenceFault orders executions fault =
    FaultOr (first_repeated orders) repeated_at (Err fault)
    (FaultOr (first_unknown orders executions) unknown_at (Err fault) ⊥)
