use Rattle.std.proofs.Common.{◌+◌, List, Bor, rules, subst}
use Rattle.std.proofs.lemmas.List.{take_all}
use Rattle.std.proofs.lemmas.List.Folds.{flat_map-map}
use Rattle.bar.specs.declared.bar.Bar.{Bar}
use Rattle.bars.specs.Bars.{AllSumsFit}
use Rattle.bar_lines.proofs.NextBar.{next_alike_behind, range_of_more, sums_alike_behind, sums_in_tables}
use Rattle.bar_lines.proofs.next_bar.next_bar.Goals as goal

pub next_of-best-requires-clause-sums : goal.next_of-best-requires-clause-sums
next_of-best-requires-clause-sums c =
    let bounds = c.args.bounds.now in
    let tables = c.args.tables.now in
    let i = c.loop-table.table-index in
    let more = range_of_more bounds tables i c.table-item.result c.loop-table-test.true c.table-item.is in
    let fit = subst AllSumsFit more (sums_in_tables bounds tables (i + 1) c.requires) in
    (_, c.loop-table.invariant, sums_alike_behind _ _ _ c.ticks_within-width.ensures.alike fit)

pub loop-table-preserved : goal.loop-table-preserved
loop-table-preserved c =
    let more = range_of_more c.args.bounds.now c.args.tables.now c.loop-table.table-index c.table-item.result c.loop-table-test.true c.table-item.is in
    rw more (next_alike_behind _ _ _ c.ticks_within-width.ensures.alike c.args.last.now c.next_of-best.result (c.next_of-best.ensures _ c.loop-table.invariant))

pub loop-table-init : goal.loop-table-init
loop-table-init c = search rules

pub returns : goal.returns
returns c =
    let tables = c.args.tables.now in
    rw (flat_map-map (λ (l : List Bar). l) (λ (t : Bor (List Bar)). t.now) tables)
    (rw (take_all c.loop-table.table-index tables c.loop-table-test.false) at c.loop-table.invariant)
