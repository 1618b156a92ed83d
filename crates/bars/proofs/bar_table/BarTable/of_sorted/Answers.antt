use Rattle.std.proofs.Common.{map, refl, arith}
use Rattle.std.proofs.lemmas.List.{length-map, take_all}
use Rattle.std.proofs.lemmas.List.Elements.{All-map}
use Rattle.bar.specs.OneBar.{IsTraded}
use Rattle.bars.specs.Steps.{bar_of_one}
use Rattle.bars.proofs.BarsOfSales.{bars_from_ones, bars_traded}
use Rattle.bars.proofs.LastBar.{next_bar}
use Rattle.bars.proofs.SumsAreBounded.{sums_of_few}
use Rattle.bars.proofs.bar_table.BarTable.of_sorted.Goals as goal

pub add-requires : goal.add-requires
add-requires g c =
    let one = bar_of_one c.args.width in
    let sales = c.args.sales.now in
    let fit = sums_of_few c.args.width sales (map one sales) (λ key. refl) (All-map IsTraded one sales c.requires.traded) c.requires.count in
    let can = (next_bar one sales c.loop-sale.sale-index _ c.bar_of_sale.result c.loop-sale.bars.items c.requires.rise fit c.loop-sale-test.true
    c.bar_of_sale.ensures.value c.loop-sale.invariant).0 in
    record { by_key = can.by_key; up_to = can.up_to; sums = can.sums }

pub loop-sale-preserved : goal.loop-sale-preserved
loop-sale-preserved g c =
    let one = bar_of_one c.args.width in
    let sales = c.args.sales.now in
    let fit = sums_of_few c.args.width sales (map one sales) (λ key. refl) (All-map IsTraded one sales c.requires.traded) c.requires.count in
    (next_bar one sales c.loop-sale.sale-index _ c.bar_of_sale.result c.loop-sale.bars.items c.requires.rise fit c.loop-sale-test.true
    c.bar_of_sale.ensures.value c.loop-sale.invariant).1 _ c.in_ok-add.ensures

pub returns-clause-bars : goal.returns-clause-bars
returns-clause-bars g c =
    let one = bar_of_one c.args.width in
    let all = take_all c.loop-sale.sale-index (map one c.args.sales.now) (omega (arith, length-map c.args.sales.now one)) in
    bars_from_ones c.args.width c.args.sales.now c.loop-sale.bars.items (rw all at c.loop-sale.invariant)

pub returns-clause-traded : goal.returns-clause-traded
returns-clause-traded g c = bars_traded c.args.width c.args.sales.now c.loop-sale.bars.items c.requires.traded (returns-clause-bars g c)

pub invariant_of-result : goal.invariant_of-result
invariant_of-result g c = (c.loop-sale.invariant.rise, returns-clause-traded g c)
