use Rattle.std.proofs.Common.{take}
use Rattle.bars.specs.Bars.{IsUnionOf}
use Rattle.bars.proofs.bar_table.join_all.Given as goal

-- the bars so far are made one
abbrev pub invariant-loop-bar : goal.invariant-loop-bar
invariant-loop-bar g l = IsUnionOf (take l.bar-index l.sorted) l.bars.items
