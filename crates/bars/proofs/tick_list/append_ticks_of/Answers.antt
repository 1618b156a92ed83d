use Rattle.std.proofs.Common.{arith, get_or}
use Rattle.std.proofs.lemmas.Grind.{common_steps}
use Rattle.time_and_sales.proofs.SortedByPlace.{no_sale}
use Rattle.bars.proofs.Ticks.{traded_more}
use Rattle.bars.proofs.tick_list.append_ticks_of.Goals as goal

pub loop-sale-preserved : goal.loop-sale-preserved
loop-sale-preserved c = record {
  ticks = grind (arith, common_steps);
  traded = λ before. rw c.push_reserved.ensures.items
      (traded_more c.loop-sale.ticks.items c.of.result (get_or c.args.sales.now c.loop-sale.sale-index no_sale) (c.loop-sale.invariant.traded before) c.of.ensures.value
      (c.requires.shares _ no_sale c.loop-sale-test.true) (c.requires.fit _ no_sale c.loop-sale-test.true).0 c.of.ensures.traded);
  len = grind (arith, common_steps);
  room = grind (arith, common_steps);
}
