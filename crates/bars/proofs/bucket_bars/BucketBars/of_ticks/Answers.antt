use Rattle.std.proofs.Common.{sym, ◌∙◌}
use Rattle.bars.proofs.Ticks.{bars_of_kept, kept_of, kept_traded, ticks_apart}
use Rattle.bars.proofs.bucket_bars.BucketBars.of_ticks.Goals as goal

pub invariant_of-result : goal.invariant_of-result
invariant_of-result c =
    let (sales, are, apart, few) = c.requires.sales in
    kept_of c.args.width sales c.into_items-ticks.result.items _ (sym c.into_items-ticks.ensures.items ∙ are) apart few c.requires.width
    c.into_items-ticks.ensures.traded (rw c.shrink_to_fit.ensures.items at c.put_ticks_in_order.ensures.permutation)
    c.put_ticks_in_order.ensures.locates

pub returns-clause-bars : goal.returns-clause-bars
returns-clause-bars c = λ sales are.
    let (those, are_those, apart, _) = c.requires.sales in
    let ticks = c.into_items-ticks.result.items in
    bars_of_kept c.args.width sales ticks _ (sym c.into_items-ticks.ensures.items ∙ are)
    (ticks_apart those ticks (sym c.into_items-ticks.ensures.items ∙ are_those) apart)
    (rw c.shrink_to_fit.ensures.items at c.put_ticks_in_order.ensures.permutation)

pub returns-clause-traded : goal.returns-clause-traded
returns-clause-traded c = kept_traded c.args.width c.put_ticks_in_order.new.ticks.items (invariant_of-result c)
