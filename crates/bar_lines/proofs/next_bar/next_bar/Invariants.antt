use Rattle.std.proofs.Common.{List, Bor, filter, flat_map, take}
use Rattle.time_and_sales.specs.Ranges.{is_in_first}
use Rattle.bar.specs.declared.bar.Bar.{Bar}
use Rattle.bar_lines.specs.NextBar.{IsNext}
use Rattle.bar_lines.proofs.BarsInRanges.{locate_of}
use Rattle.bar_lines.proofs.next_bar.next_bar.Given as goal

-- the next bar of the tables so far, as far as they are in the range
abbrev pub invariant-loop-table : goal.invariant-loop-table
invariant-loop-table l = IsNext l.last (filter (is_in_first locate_of l.bounds) (flat_map (λ (t : Bor (List Bar)). t.now) (take l.table-index l.tables))) l.best
