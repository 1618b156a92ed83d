use Rattle.std.proofs.Common.{map, take}
use Rattle.bars.specs.Bars.{IsUnionOf}
use Rattle.bars.specs.Steps.{bar_of_one}
use Rattle.bars.proofs.bar_table.BarTable.of_sorted.Given as goal

-- the bars are what those of the sales so far are joined to
abbrev pub invariant-loop-sale : goal.invariant-loop-sale
invariant-loop-sale g l = IsUnionOf (take l.sale-index (map (bar_of_one l.width) l.sales)) l.bars.items
