use Rattle.std.proofs.Common.{◌≡◌, arith, subst}
use Rattle.order_table.specs.Primes.{IsPrime}
use Rattle.order_table.proofs.partitions.greatest_prime.Goals as goal

two : IsPrime 2
two = record { above = omega arith; undivided = λ divisor low high none. omega (arith, low, high) }

pub loop-number-preserved : goal.loop-number-preserved
loop-number-preserved c prime is within =
    let other : prime ≡ c.loop-number.number → ⊥ = λ same. let here = c.is_prime.ensures.1 (subst IsPrime same is) in grind arith in
    omega (arith, c.loop-number.invariant prime is within, other)

pub returns-clause-prime : goal.returns-clause-prime
returns-clause-prime c more = absurd (omega (arith, c.loop-number.invariant 2 two (omega arith), c.loop-number-test.false))
