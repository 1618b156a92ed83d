use Rattle.std.proofs.Common.{filter}
use Rattle.std.proofs.lemmas.Result.{IfOk-weaker}
use Rattle.time_and_sales.specs.Ranges.{is_in_first}
use Rattle.time_and_sales.specs.Lent.{lent}
use Rattle.bars.specs.Bars.{all_bars}
use Rattle.bar_lines.proofs.BarsInRanges.{first_as_locate, IsUnionOf-within, locate_of}
use Rattle.bars.proofs.JoinedTables.{union_alike}
use Rattle.bar_lines.proofs.bars_in_ranges.range_lines.Goals as goal

pub returns : goal.returns
returns c =
    let all = all_bars (lent c.args.tables.now) in
    let some = is_in_first locate_of c.args.bounds.now in
    IfOk-weaker c.lines_of.result _ _ (λ text e table union.
    e (filter some table) (union_alike _ (filter some all) (filter some table) c.in_ok-ticks.ensures.alike
    (IsUnionOf-within some (first_as_locate c.args.bounds.now) all table union))) c.lines_of.ensures
