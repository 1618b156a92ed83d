use Rattle.std.proofs.Common.{All, take}
use Rattle.time_and_sales.specs.Lent.{lent}
use Rattle.bars.specs.Bars.{all_bars}
use Rattle.bar_lines.specs.Told.{IsTold}
use Rattle.bar_lines.proofs.bars_in_ranges.count_ranges.Given as goal

-- the bars of the tables so far have lines
abbrev pub invariant-loop-table : goal.invariant-loop-table
invariant-loop-table l = All IsTold (all_bars (lent (take l.table-index l.tables)))
