use Rattle.std.proofs.Common.{◌≡◌, ◌+◌, ◌≤◌, ◌++◌, List, take, vec_capacity, vec_len}
use Rattle.order_table.specs.declared.OrderRow.{OrderRow}
use Rattle.probe.specs.Pricing.{Execution}
use Rattle.probe.specs.Pricing.{IsPricingOf}
use Rattle.probe.proofs.pricing.price_looked.Given as goal

-- those before, and the executions so far, in the room that was there
abbrev pub invariant-loop-at : goal.invariant-loop-at
invariant-loop-at g l = record {
  priced : (rows : List OrderRow) (before : List Execution) → g.P.PricesExecutions.PricesBy rows l.prices
      → IsPricingOf rows before l.fn.priced → IsPricingOf rows (before ++ take l.at l.executions) l.priced;
  len : vec_len l.priced.sales ≤ vec_len l.fn.priced.sales + l.at;
  capacity : vec_capacity l.priced.sales ≡ vec_capacity l.fn.priced.sales;
}
