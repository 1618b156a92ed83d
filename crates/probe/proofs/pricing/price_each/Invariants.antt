use Rattle.std.proofs.Common.{◌≡◌, ◌+◌, ◌-◌, ◌≤◌, ◌++◌, List, length, take, vec_capacity, vec_len}
use Rattle.order_table.specs.declared.OrderRow.{OrderRow}
use Rattle.probe.specs.Pricing.{Execution}
use Rattle.probe.specs.Pricing.{IsPricingOf}
use Rattle.probe.proofs.pricing.price_each.Given as goal

-- those before, and the executions that are done, in the room that was there
abbrev pub invariant-loop-done : goal.invariant-loop-done
invariant-loop-done g l = record {
  priced : (rows : List OrderRow) (before : List Execution) → g.P.PricesExecutions.PricesBy rows l.prices
      → IsPricingOf rows before l.fn.priced → IsPricingOf rows (before ++ take l.done l.executions) l.priced;
  within : l.done ≤ length l.executions;
  len : vec_len l.priced.sales ≤ vec_len l.fn.priced.sales + l.done;
  capacity : vec_capacity l.priced.sales ≡ vec_capacity l.fn.priced.sales;
}

abbrev pub decreases-loop-done : goal.decreases-loop-done
decreases-loop-done g l = length l.executions - l.done
