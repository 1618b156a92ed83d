use Rattle.std.proofs.Common.{◌<◌, All}
use Rattle.row_types.specs.declared.trade.Sale.{Sale}
use Rattle.bars.specs.Steps.{HasTick}
use Rattle.tests_of_rows.proofs.lines_of_bars.sales_of.Given as goal

abbrev pub invariant-loop-place : goal.invariant-loop-place
invariant-loop-place l = record {
  shares : All (λ (sale : Sale). 0 < sale.shares) l.sales.items;
  fit : All HasTick l.sales.items;
}
