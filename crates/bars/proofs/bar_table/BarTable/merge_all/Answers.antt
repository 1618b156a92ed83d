use Rattle.std.proofs.Common.{◌≡◌, ◌≤◌, ℕ, Bor, List, length, flat_map, take, ap, sym, ◌∙◌, arith}
use Rattle.std.proofs.lemmas.Grind.{common_steps}
use Rattle.std.proofs.lemmas.List.{take_all}
use Rattle.std.proofs.lemmas.List.Elements.{All-append}
use Rattle.std.proofs.lemmas.List.Folds.{flat_map-map}
use Rattle.time_and_sales.specs.Lent.{lent}
use Rattle.bar.specs.declared.bar.Bar.{Bar}
use Rattle.bar.specs.OneBar.{IsTraded}
use Rattle.bars.specs.Bars.{all_bars}
use Rattle.bars.proofs.BarsOfSales.{AreBarsOf-union}
use Rattle.bars.proofs.JoinedTables.{joined_traded, table_has}
use Rattle.bars.proofs.bar_table.BarTable.merge_all.Goals as goal

abbrev now : Bor (List Bar) → List Bar
now table = table.now

-- the bars of all tables, at the end of the loop
at_end : (tables : List (Bor (List Bar))) (i : ℕ) {bars : List Bar} → length tables ≤ i → bars ≡ flat_map now (take i tables) → bars ≡ all_bars (lent tables)
at_end tables i past so_far = so_far ∙ ap (flat_map now) (take_all i tables past) ∙ sym (flat_map-map (λ (l : List Bar). l) now tables)

pub loop-table-preserved : goal.loop-table-preserved
loop-table-preserved g c = record {
  all = grind (arith, common_steps);
  traded = rw c.in_ok-extend_from_slice.ensures.items (All-append IsTraded _ _ c.loop-table.invariant.traded c.items.ensures.traded);
}

pub unite-requires : goal.unite-requires
unite-requires g c =
    let all = at_end c.args.tables.now c.loop-table.table-index c.loop-table-test.false c.loop-table.invariant.all in
    rw all (c.requires.sums (rw all at c.loop-table.invariant.traded))

pub returns-clause-union : goal.returns-clause-union
returns-clause-union g c =
    rw (at_end c.args.tables.now c.loop-table.table-index c.loop-table-test.false c.loop-table.invariant.all) at c.in_ok-unite.ensures

pub returns-clause-bars : goal.returns-clause-bars
returns-clause-bars g c = λ width lists are. AreBarsOf-union width lists _ _ are (returns-clause-union g c)

pub returns-clause-traded : goal.returns-clause-traded
returns-clause-traded g c = table_has IsTraded joined_traded _ _ c.in_ok-unite.ensures c.loop-table.invariant.traded

pub invariant_of-result : goal.invariant_of-result
invariant_of-result g c = (c.in_ok-unite.ensures.rise, returns-clause-traded g c)
