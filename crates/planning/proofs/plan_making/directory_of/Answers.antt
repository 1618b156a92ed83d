use Rattle.std.proofs.Common.{◌∙◌}
use Rattle.std.specs.Arc.{arc_value}
use Rattle.morsel_rows.specs.Partitions.{MorselRowsView}
use Rattle.planning.proofs.PlannedLists.{gathered_all, gathered_more}
use Rattle.planning.proofs.plan_making.directory_of.Goals as goal

pub loop-morsel-preserved : goal.loop-morsel-preserved
loop-morsel-preserved c =
    gathered_more (λ (rows : MorselRowsView). rows.directory) arc_value c.args.morsels.now c.loop-morsel.morsel-index c.morsel-item.result
    c.loop-morsel-test.true c.morsel-item.is c.loop-morsel.invariant (c.directory.ensures ∙ (λ i. (c.deref.ensures i).directory))
    c.in_ok-extend_from_slice.ensures.items

pub returns : goal.returns
returns c =
    gathered_all (λ (rows : MorselRowsView). rows.directory) arc_value c.args.morsels.now c.loop-morsel.morsel-index c.loop-morsel-test.false
    c.loop-morsel.invariant
