use Rattle.std.proofs.Common.{◌<◌, ◌≤◌, length, max}
use Rattle.time_and_sales.proofs.numbered.numbers_of.Given as goal

-- each part so far but the first has one number at most
abbrev pub invariant-loop-part : goal.invariant-loop-part
invariant-loop-part g l = (length l.numbers.items < l.part) × (l.part ≤ max 1 l.parts)
