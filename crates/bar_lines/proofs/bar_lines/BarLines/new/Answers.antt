use Rattle.std.proofs.Common.{◌<◌, ap, arith, length}
use Rattle.std.proofs.lemmas.List.Elements.{All-weaker}
use Rattle.base.specs.declared.limits.TheConstants.{TIME_LIMIT}
use Rattle.bar.specs.OneBar.{IsTraded}
use Rattle.bar_lines.specs.Told.{IsTold}
use Rattle.time_and_sales.specs.Names.{names_by}
use Rattle.time_and_sales.proofs.InRanges.{length-greatest_so_far}
use Rattle.bar_lines.proofs.RangeTexts.{texts_are_whole}
use Rattle.bar_lines.proofs.bar_lines.BarLines.new.Goals as goal

pub invariant_of-result : goal.invariant_of-result
invariant_of-result g c =
    let numbers = c.as_slice.result.now in
    let traded = All-weaker IsTold IsTraded (λ bar told. told.0) _ c.count_ranges.ensures in (
      c.requires.union,
      traded,
      c.requires.sums traded,
      All-weaker IsTold (λ bar. bar.start < TIME_LIMIT) (λ bar told. told.1) _ c.count_ranges.ensures,
      c.requires.few,
      omega (arith, ap length c.in_ok-bounds.ensures, length-greatest_so_far 0 numbers, ap length c.as_slice.ensures.value, c.in_ok-numbers.ensures, c.min-ranges.ensures),
    )

pub returns : goal.returns
returns g c = texts_are_whole (names_by c.args.names.now) g.J.AllBars.bars c.as_slice.result.now _ c.requires.union.rise c.in_ok-bounds.ensures
