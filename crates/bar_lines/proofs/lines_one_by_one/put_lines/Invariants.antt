use Rattle.std.proofs.Common.{◌≡◌, ◌*◌, ◌≤◌, ◌++◌, List, false, filter, length}
use Rattle.time_and_sales.specs.Names.{names_by}
use Rattle.time_and_sales.specs.Ranges.{is_in_first}
use Rattle.bar.specs.declared.bar.Bar.{Bar}
use Rattle.bar_lines.specs.NextBar.{is_later}
use Rattle.bars.specs.Texts.{lines_text}
use Rattle.bar_lines.proofs.BarsInRanges.{locate_of}
use Rattle.bar_lines.proofs.lines_one_by_one.put_lines.Given as goal

-- the lines so far are those of the bars of the range up to the last one
abbrev pub invariant-loop-bar : goal.invariant-loop-bar
invariant-loop-bar g l = record {
  done : List Bar;
  all : filter (is_in_first locate_of l.bounds) g.J.AllBars.bars ≡ done ++ filter (is_later l.last) (filter (is_in_first locate_of l.bounds) g.J.AllBars.bars);
  took : g.K.Sink.Took l.fn.sink l.sink (lines_text (names_by l.names) done);
  count : l.written ≡ length (lines_text (names_by l.names) done);
  short : l.written ≤ 224 * length done;
  whole : g.K.Sink.has_failed l.sink ≡ false;
}

-- the bars that are to come
abbrev pub decreases-loop-bar : goal.decreases-loop-bar
decreases-loop-bar g l = length (filter (is_later l.last) (filter (is_in_first locate_of l.bounds) g.J.AllBars.bars))
