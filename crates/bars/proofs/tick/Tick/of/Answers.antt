use Rattle.std.proofs.Common.{◌*◌, ◌-◌, ◌^◌, ◌≤◌, arith}
use Rattle.std.proofs.Math.Nat.{mul-le-mul_left}
use Rattle.bars.proofs.tick.Tick.of.Goals as goal

pub returns-clause-traded : goal.returns-clause-traded
returns-clause-traded c = λ some width.
    let shares = c.args.sale.shares in
    let most : shares * c.args.sale.price ≤ shares * (2 ^ 32 - 1) = mul-le-mul_left shares (omega arith) in
    (grind arith, omega (arith, most), omega arith)
