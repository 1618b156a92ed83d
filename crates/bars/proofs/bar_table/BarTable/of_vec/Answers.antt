use Rattle.std.proofs.Common.{subst}
use Rattle.std.proofs.lemmas.Result.{IfOk-weaker}
use Rattle.bars.specs.Bars.{AreBarsOf}
use Rattle.bars.proofs.BarsOfSales.{AreBarsOf-sorted}
use Rattle.bars.proofs.bar_table.BarTable.of_vec.Goals as goal

pub returns-clause-bars : goal.returns-clause-bars
returns-clause-bars g c =
    IfOk-weaker c.of_sorted.result _ _
    (λ table are. AreBarsOf-sorted c.args.width c.args.sales.items _ table c.put_in_order-count.ensures.permutation c.requires.places
    (subst (λ l. AreBarsOf c.args.width l table) c.as_slice.ensures.value are)) c.of_sorted.ensures.bars
