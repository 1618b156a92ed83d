use Rattle.std.proofs.Common.{◌≡◌, take}
use Rattle.time_and_sales.specs.Names.{names_by}
use Rattle.bar_lines.specs.Grids.{bars_in}
use Rattle.bars.specs.Texts.{lines_text}
use Rattle.bar_lines.proofs.bar_grid.BarGrid.lines.Given as goal

-- the lines so far are those of the bars of the slots so far
abbrev pub invariant-loop-slot : goal.invariant-loop-slot
invariant-loop-slot l = record {
  text : l.text.items ≡ lines_text (names_by l.names) (bars_in l.self-inside.bars.items (take l.slot-index l.slots));
  name : l.name ≡ names_by l.names l.locate;
}
