use Rattle.std.proofs.Common.{◌≤◌, ℕ}
use Rattle.order_table.specs.Primes.{IsPrime}
use Rattle.order_table.proofs.partitions.greatest_prime.Given as goal

-- no prime is above those that are left
abbrev pub invariant-loop-number : goal.invariant-loop-number
invariant-loop-number l = (prime : ℕ) → IsPrime prime → prime ≤ l.most → prime ≤ l.number
