use Rattle.std.proofs.Common.{arith, sym}
use Rattle.morsel_rows.proofs.Divided.{least, most}
use Rattle.morsel_rows.proofs.divisor.Divisor.quotient.Goals as goal

pub returns-clause-most : goal.returns-clause-most
returns-clause-most c =
    rw (c.from.ensures, c.from-2.ensures, sym c.self.view_is) (most c.args.of c.self.inside.number c.self.inside.times c.self.invariant.1)

pub returns-clause-least : goal.returns-clause-least
returns-clause-least c =
    rw (c.from.ensures, c.from-2.ensures, sym c.self.view_is)
    (least c.args.of c.self.inside.number c.self.inside.times c.self.invariant.0 c.self.invariant.1 (omega (arith, c.ranges.of.fits)))
