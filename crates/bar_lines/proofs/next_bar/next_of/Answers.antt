use Rattle.std.proofs.Common.{◌+◌, ◌++◌, ◌∙◌, arith, drop, get_or, map, subst, take}
use Rattle.std.proofs.lemmas.Grind.{common_steps}
use Rattle.std.proofs.lemmas.List.{get_or_default, take_all}
use Rattle.bars.specs.Bars.{AllSumsFit}
use Rattle.bars.specs.Steps.{bar_of_tick}
use Rattle.bars.proofs.Ticks.{no_tick}
use Rattle.bar_lines.proofs.NextBar.{items_at, next_fits_both, next_more}
use Rattle.bar_lines.proofs.next_bar.next_of.Goals as goal

pub loop-tick-preserved : goal.loop-tick-preserved
loop-tick-preserved c = λ before next. let h = c.loop-tick.invariant before next in grind (arith, common_steps, next_more)

pub next_of_both-next-requires : goal.next_of_both-next-requires
next_of_both-next-requires c =
    let f = bar_of_tick c.args.width in
    let ticks = c.args.ticks.now in
    let i = c.loop-tick.tick-index in
    let tick = get_or ticks i no_tick in
    let (before, next, fit) = c.requires.sums in
    let split = items_at f before ticks i tick c.loop-tick-test.true (get_or_default ticks i no_tick tick c.loop-tick-test.true) in
    rw (c.bar_at.ensures ∙ c.at_start.ensures) (next_fits_both c.args.last.now c.loop-tick.next (before ++ map f (take i ticks)) (map f (drop (i + 1) ticks)) (f tick)
    (c.loop-tick.invariant before next) (subst AllSumsFit split fit))

pub returns : goal.returns
returns c = rw (take_all c.loop-tick.tick-index c.args.ticks.now c.loop-tick-test.false) at c.loop-tick.invariant
