use Rattle.std.proofs.Common.{map, take}
use Rattle.bars.specs.Bars.{IsUnionOf}
use Rattle.bars.specs.Steps.{bar_at}
use Rattle.bar_lines.proofs.bar_grid.BarGrid.of.Given as goal

-- the bars are what there is so far, joined
abbrev pub invariant-loop-i : goal.invariant-loop-i
invariant-loop-i l = IsUnionOf (take l.i (map bar_at l.ticks)) l.bars
