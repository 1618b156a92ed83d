use Rattle.std.proofs.Common.{arith, map}
use Rattle.std.proofs.lemmas.List.{length-map, take_all}
use Rattle.bars.specs.Steps.{bar_at}
use Rattle.bars.proofs.Ticks.{no_tick}
use Rattle.bars.proofs.JoinedTables.{union_of_none}
use Rattle.bar_lines.proofs.NextAnywhere.{next_anywhere}
use Rattle.bar_lines.proofs.bar_grid.BarGrid.of.Goals as goal

pub loop-i-init : goal.loop-i-init
loop-i-init c = rw c.in_ok-bars.ensures union_of_none

pub add-requires : goal.add-requires
add-requires c =
    (next_anywhere bar_at c.args.ticks.now c.loop-i.i no_tick c.bar_at.result c.loop-i.bars c.requires c.loop-i-test.true
    c.bar_at.ensures c.loop-i.invariant).0

pub loop-i-preserved : goal.loop-i-preserved
loop-i-preserved c =
    (next_anywhere bar_at c.args.ticks.now c.loop-i.i no_tick c.bar_at.result c.loop-i.bars c.requires c.loop-i-test.true
    c.bar_at.ensures c.loop-i.invariant).1 c.add.new.self (c.in_ok-add.ensures c.if-not-branch.false)

pub returns : goal.returns
returns c =
    rw (take_all c.loop-i.i (map bar_at c.args.ticks.now) (omega (arith, length-map c.args.ticks.now bar_at))) at c.loop-i.invariant
