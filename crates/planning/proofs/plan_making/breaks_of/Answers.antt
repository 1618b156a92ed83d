use Rattle.std.proofs.Common.{ap, ◌∙◌}
use Rattle.std.specs.Arc.{arc_value}
use Rattle.buckets.specs.Plans.{rising}
use Rattle.morsel_rows.specs.Partitions.{MorselRowsView}
use Rattle.planning.proofs.PlannedLists.{gathered_all, gathered_more, rising_is}
use Rattle.planning.proofs.plan_making.breaks_of.Goals as goal

pub loop-morsel-preserved : goal.loop-morsel-preserved
loop-morsel-preserved c =
    gathered_more (λ (rows : MorselRowsView). rows.breaks) arc_value c.args.morsels.now c.loop-morsel.morsel-index c.morsel-item.result
    c.loop-morsel-test.true c.morsel-item.is c.loop-morsel.invariant (c.breaks.ensures ∙ (λ i. (c.deref.ensures i).breaks))
    c.in_ok-extend_from_slice.ensures.items

pub returns : goal.returns
returns c =
    let all = gathered_all (λ (rows : MorselRowsView). rows.breaks) arc_value c.args.morsels.now c.loop-morsel.morsel-index c.loop-morsel-test.false
    c.loop-morsel.invariant in
    rising_is c.loop-morsel.rows.items c.from_rows.result c.from_rows.ensures.numbers c.from_rows.ensures.rising ∙ ap rising all
