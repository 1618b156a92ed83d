use Rattle.std.proofs.Common.{◌≡◌, map, take}
use Rattle.bars.specs.Steps.{sale_of_tick}
use Rattle.bars.proofs.tick.sales_of.Given as goal

-- the sales so far are those of the ticks so far
abbrev pub invariant-loop-tick : goal.invariant-loop-tick
invariant-loop-tick l = l.sales.items ≡ map sale_of_tick (take l.tick-index l.ticks)
