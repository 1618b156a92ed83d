use Rattle.std.proofs.Common.{List, map, take, filter, flat_map, Bor, All}
use Rattle.time_and_sales.specs.Ranges.{is_in_first}
use Rattle.bar.specs.declared.bar.Bar.{Bar}
use Rattle.bars.specs.Steps.{AreJoinedAlike, bar_at}
use Rattle.bar_lines.specs.Told.{IsTold}
use Rattle.bar_lines.proofs.BarsInRanges.{locate_of}
use Rattle.bar_lines.proofs.bars_in_ranges.gathered.Given as goal

-- the ticks so far are of the tables so far, as far as they are in the range
abbrev pub invariant-loop-table : goal.invariant-loop-table
invariant-loop-table l = record {
  alike : AreJoinedAlike (map bar_at l.gathered.items)
      (filter (is_in_first locate_of l.bounds) (flat_map (λ (t : Bor (List Bar)). t.now) (take l.table-index l.tables)));
  told : All IsTold (map bar_at l.gathered.items);
}
