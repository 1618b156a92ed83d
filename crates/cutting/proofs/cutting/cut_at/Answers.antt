use Rattle.std.proofs.Common.{refl, arith}
use Rattle.std.proofs.lemmas.Result.{err_from_is_err_and}
use Rattle.cutting.proofs.CutsAt.{IsCutAt-runs, runs_at, runs_many}
use Rattle.cutting.proofs.cutting.cut_at.Goals as goal

pub returns-then-ends-clause-fault : goal.returns-then-ends-clause-fault
returns-then-ends-clause-fault g c =
    let bytes = c.bytes-bytes in
    let is = IsCutAt-runs c.args.file.now bytes.result.now c.args.ends.now bytes.ensures.same c.in_ok-check.ensures.whole (c.in_default.ensures.good refl) in
    (runs_at 0 bytes.result.now c.args.ends.now, is, omega (arith, runs_many _ _ _ is, c.if-ends.true))

pub returns-in_err-make_at-clause-fault : goal.returns-in_err-make_at-clause-fault
returns-in_err-make_at-clause-fault g c =
    let bytes = c.bytes-bytes in
    let p = err_from_is_err_and c.from_residual-in_err-make_at.result c.from_residual-in_err-make_at.ensures.1 in
    let is = IsCutAt-runs c.args.file.now bytes.result.now c.args.ends.now bytes.ensures.same c.in_ok-check.ensures.whole (c.in_default.ensures.good refl) in
    rw (p.1, p.2) (runs_at 0 bytes.result.now c.args.ends.now, is, omega (arith, runs_many _ _ _ is, c.if-ends.false))
