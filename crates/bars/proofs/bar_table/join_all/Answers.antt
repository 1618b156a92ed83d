use Rattle.std.proofs.Common.{arith}
use Rattle.std.proofs.lemmas.Grind.{common_steps}
use Rattle.bars.proofs.JoinedTables.{union_more}
use Rattle.bars.proofs.LastBar.{next_can_add}
use Rattle.bars.proofs.bar_table.join_all.Goals as goal

pub add-requires : goal.add-requires
add-requires g c =
    let can = next_can_add c.args.sorted.now c.loop-bar.bars.items c.loop-bar.bar-index _ c.requires.rise c.requires.sums c.loop-bar-test.true
    c.loop-bar.invariant in
    record { by_key = can.by_key; up_to = can.up_to; sums = can.sums }

pub loop-bar-preserved : goal.loop-bar-preserved
loop-bar-preserved g c =
    union_more c.args.sorted.now c.loop-bar.bar-index _ c.loop-bar.bars.items _ c.loop-bar-test.true c.loop-bar.invariant c.in_ok-add.ensures

pub returns : goal.returns
returns g c = grind (arith, common_steps)
