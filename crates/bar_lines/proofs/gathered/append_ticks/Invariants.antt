use Rattle.std.proofs.Common.{◌≡◌, ◌++◌, map, take}
use Rattle.bars.specs.Steps.{bar_at, bar_of_tick}
use Rattle.bar_lines.proofs.gathered.append_ticks.Given as goal

-- the ticks so far stand behind what there was
abbrev pub invariant-loop-tick : goal.invariant-loop-tick
invariant-loop-tick l = map bar_at l.gathered.items ≡ map bar_at l.initial.gathered.items ++ map (bar_of_tick l.width) (take l.tick-index l.ticks)
