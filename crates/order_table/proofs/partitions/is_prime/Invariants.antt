use Rattle.std.proofs.Common.{◌≡◌, ℕ, ◌%◌, ◌<◌}
use Rattle.order_table.proofs.partitions.is_prime.Given as goal

-- none so far divides it
abbrev pub invariant-loop-divisor : goal.invariant-loop-divisor
invariant-loop-divisor l = (divisor : ℕ) → 1 < divisor → divisor < l.divisor → l.number % divisor ≡ 0 → ⊥
