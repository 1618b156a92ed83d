use Rattle.std.proofs.Common.{ap, length, arith}
use Rattle.cutting.specs.Feeding.{fed_length}
use Rattle.cutting.proofs.Fed.{fed_length_is}
use Rattle.cutting.proofs.cutter.Cutter.length.Goals as goal

pub returns-clause-fed : goal.returns-clause-fed
returns-clause-fed c = λ fed has.
    let now = ap fed_length c.self.view_is in
    omega (arith, fed_length_is c.args.self.now fed has, now, c.length.ensures.same, ap length c.as_slice.ensures)
