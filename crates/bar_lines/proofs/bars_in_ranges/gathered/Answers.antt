use Rattle.std.proofs.Common.{refl, take_all, List, Bor, map}
use Rattle.std.proofs.lemmas.List.Elements.{All-append, All-nil}
use Rattle.std.proofs.lemmas.List.Folds.{flat_map-map}
use Rattle.time_and_sales.specs.Lent.{lent}
use Rattle.time_and_sales.specs.Ranges.{is_in_first}
use Rattle.bar.specs.declared.bar.Bar.{Bar}
use Rattle.bars.specs.Bars.{all_bars}
use Rattle.bars.specs.Steps.{bar_at}
use Rattle.bars.proofs.JoinedTables.{alike_parts}
use Rattle.bar_lines.specs.Told.{IsTold}
use Rattle.bar_lines.proofs.BarsInRanges.{first_as_locate, locate_of, sums_within}
use Rattle.bar_lines.proofs.NextBar.{range_of_more}
use Rattle.bar_lines.proofs.bars_in_ranges.gathered.Goals as goal

pub loop-table-preserved : goal.loop-table-preserved
loop-table-preserved c =
    let more = range_of_more c.args.bounds.now c.args.tables.now c.loop-table.table-index c.table-item.result c.loop-table-test.true c.table-item.is in
    let h = c.loop-table.invariant in
    record {
      alike = rw (more, c.in_ok-append_ticks.ensures) (alike_parts _ _ _ _ h.alike c.ticks_within-width.ensures.alike);
      told = rw c.in_ok-append_ticks.ensures (All-append IsTold _ _ h.told c.ticks_within-width.ensures.told);
    }

pub loop-table-init : goal.loop-table-init
loop-table-init c = record {
  alike = rw c.in_ok-gathered.ensures.items (λ key. refl);
  told = rw c.in_ok-gathered.ensures.items (All-nil IsTold);
}

pub returns-clause-alike : goal.returns-clause-alike
returns-clause-alike c =
    let tables = c.args.tables.now in
    let all = take_all c.loop-table.table-index tables c.loop-table-test.false in
    rw (flat_map-map (λ (l : List Bar). l) (λ (t : Bor (List Bar)). t.now) tables) (rw all at c.loop-table.invariant.alike)

pub returns-clause-sums : goal.returns-clause-sums
returns-clause-sums c =
    sums_within (is_in_first locate_of c.args.bounds.now) (first_as_locate c.args.bounds.now) (map bar_at c.loop-table.gathered.items)
    (all_bars (lent c.args.tables.now)) (returns-clause-alike c) c.requires
