use Rattle.std.specs.List.Sorted.{IsPermutation}
use Rattle.bars.proofs.tick.move_by_keys.Given as goal

-- the ticks have moved alone
abbrev pub invariant-loop : goal.invariant-loop
invariant-loop l = IsPermutation l.fn.ticks l.ticks
