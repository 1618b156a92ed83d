use Rattle.time_and_sales.specs.Ranges.{is_in_first}
use Rattle.bars.specs.declared.tick.Tick.{Tick}
use Rattle.bar_lines.proofs.BarsInRanges.{ticks_in_range, ticks_told}
use Rattle.bar_lines.proofs.gathered.ticks_within.Goals as goal

pub returns-clause-alike : goal.returns-clause-alike
returns-clause-alike c =
    rw (c.within.ensures, c.ticks-width.ensures.value) (ticks_in_range c.args.bounds.now c.ticks-width.result.1 c.ticks-width.result.0.now)

pub returns-clause-told : goal.returns-clause-told
returns-clause-told c =
    rw c.within.ensures
    (ticks_told (is_in_first (λ (t : Tick). t.locate) c.args.bounds.now) c.ticks-width.result.1 c.ticks-width.result.0.now c.ticks-width.ensures.kept.traded)
