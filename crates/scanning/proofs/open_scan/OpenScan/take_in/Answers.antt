use Rattle.std.proofs.Common.{arith}
use Rattle.scanning.proofs.PickedFrames.{on_err, some_taken, taken_all}
use Rattle.scanning.proofs.open_scan.OpenScan.take_in.Goals as goal

pub returns-in_err-take_in_each-clause-some : goal.returns-in_err-take_in_each-clause-some
returns-in_err-take_in_each-clause-some c =
    on_err c.from_residual.result (some_taken c.loop-frame.invariant c.take_in_each.new.self c.in_err-take_in_each.ensures.some)

pub returns-then-walked-bytes-clause-taken : goal.returns-then-walked-bytes-clause-taken
returns-then-walked-bytes-clause-taken c =
    taken_all c.loop-frame.invariant c.take_in_each.new.self c.in_ok-take_in_each.ensures.taken c.args.bytes
    (λ h. absurd (omega (arith, h, c.if-walked-bytes.true)))

pub returns-in_err-count-clause-some : goal.returns-in_err-count-clause-some
returns-in_err-count-clause-some c =
    on_err c.from_residual-in_err-count.result (some_taken c.loop-frame.invariant c.make_room.new.self c.in_err-count.ensures.some)

pub returns-in_err-take_in_each-2-clause-some : goal.returns-in_err-take_in_each-2-clause-some
returns-in_err-take_in_each-2-clause-some c =
    on_err c.from_residual-in_err-take_in_each-2.result (some_taken c.loop-frame.invariant c.take_in_each-2.new.self c.in_err-take_in_each-2.ensures.some)

pub returns-clause-taken : goal.returns-clause-taken
returns-clause-taken c =
    taken_all c.loop-frame.invariant c.take_in_each-2.new.self c.in_ok-take_in_each-2.ensures.taken c.args.bytes (λ h. c.in-None.ensures.steps.0.0)
