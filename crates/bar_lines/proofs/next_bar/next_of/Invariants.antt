use Rattle.std.proofs.Common.{◌++◌, List, map, take}
use Rattle.bar.specs.declared.bar.Bar.{Bar}
use Rattle.bars.specs.Steps.{bar_of_tick}
use Rattle.bar_lines.specs.NextBar.{IsNext}
use Rattle.bar_lines.proofs.next_bar.next_of.Given as goal

-- the next bar of those so far, whatever bars were there before
abbrev pub invariant-loop-tick : goal.invariant-loop-tick
invariant-loop-tick l = (before : List Bar) → IsNext l.last before l.fn.best → IsNext l.last (before ++ map (bar_of_tick l.width) (take l.tick-index l.ticks)) l.next
