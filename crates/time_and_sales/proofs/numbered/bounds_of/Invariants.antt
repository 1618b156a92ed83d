use Rattle.std.proofs.Common.{◌≡◌, ◌++◌, ◌∷◌, drop}
use Rattle.time_and_sales.specs.Ranges.{greatest_so_far}
use Rattle.time_and_sales.proofs.numbered.bounds_of.Given as goal

-- the bounds so far, and those that are to come
abbrev pub invariant-loop-number : goal.invariant-loop-number
invariant-loop-number l = l.bounds.items ++ greatest_so_far l.bound (drop l.number-index l.numbers) ≡ 0 ∷ greatest_so_far 0 l.numbers
