use Rattle.std.proofs.Common.{rules, ◌<◌}
use Rattle.std.proofs.lemmas.List.Elements.{All-more}
use Rattle.std.proofs.lemmas.List.Sorted.{All-permutation}
use Rattle.row_types.specs.declared.trade.Sale.{Sale}
use Rattle.time_and_sales.proofs.SortedByPlace.{no_sale}
use Rattle.bar.specs.OneBar.{IsTraded}
use Rattle.bars.specs.Steps.{bar_of_one}
use Rattle.bars.proofs.BarsOfSales.{ones_rise}
use Rattle.bars.proofs.bar_table.put_in_order.Goals as goal

pub loop-sale-init : goal.loop-sale-init
loop-sale-init g c = record {
  shares = rw c.as_slice-in_order.ensures.value
      (All-permutation (λ (s : Sale). 0 < s.shares) c.args.sales.now.items _ c.sort_unstable_by_key.ensures.permutation c.requires.shares);
  traded = search rules;
}

pub loop-sale-preserved : goal.loop-sale-preserved
loop-sale-preserved g c = record {
  shares = c.loop-sale.invariant.shares;
  traded = All-more (λ (s : Sale). IsTraded (bar_of_one c.args.width s)) c.as_slice-in_order.result.now c.loop-sale.sale-index no_sale
      c.loop-sale-test.true c.loop-sale.invariant.traded (rw c.bar_of_sale-bar.ensures.value at c.bar_of_sale-bar.ensures.traded);
}

pub returns-clause-rise : goal.returns-clause-rise
returns-clause-rise g c =
    ones_rise c.args.width c.sort_unstable_by_key.new.self.items c.requires.width c.sort_unstable_by_key.ensures.sorted (λ f a r q k. search rules)
