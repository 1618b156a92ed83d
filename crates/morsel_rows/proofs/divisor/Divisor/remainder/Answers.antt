use Rattle.std.proofs.Common.{◌≡◌, ◌∙◌, arith, sym}
use Rattle.morsel_rows.proofs.Divided.{left_above, left_below}
use Rattle.morsel_rows.proofs.divisor.Divisor.remainder.Goals as goal

pub returns-then-left-number : goal.returns-then-left-number
returns-then-left-number c =
    let same : c.args.self.now ≡ c.from-number.result = sym c.self.view_is ∙ sym c.from-number.ensures in
    rw same (left_below c.args.of c.from-number.result c.quotient.result (rw (sym same) c.quotient.ensures.most)
    (omega (arith, c.if-left-number.true)))

pub returns-else-left-number : goal.returns-else-left-number
returns-else-left-number c =
    let same : c.args.self.now ≡ c.from-number.result = sym c.self.view_is ∙ sym c.from-number.ensures in
    rw same (left_above c.args.of c.from-number.result c.quotient.result (rw (sym same) c.quotient.ensures.most) (omega (arith, c.if-left-number.false))
    (rw (sym same) c.quotient.ensures.least))
