use Rattle.std.proofs.Common.{All, ◌<◌, take}
use Rattle.row_types.specs.declared.trade.Sale.{Sale}
use Rattle.bar.specs.OneBar.{IsTraded}
use Rattle.bars.specs.Steps.{bar_of_one}
use Rattle.bars.proofs.bar_table.put_in_order.Given as goal

-- each sale has shares, and the bars of the sales so far are traded
abbrev pub invariant-loop-sale : goal.invariant-loop-sale
invariant-loop-sale g l = record {
  shares : All (λ (s : Sale). 0 < s.shares) l.in_order;
  traded : All (λ (s : Sale). IsTraded (bar_of_one l.width s)) (take l.sale-index l.in_order);
}
