use Rattle.scanning.proofs.PickedFrames.{on_err, takes_first, takes_next}
use Rattle.scanning.proofs.open_scan.OpenScan.take_in_each.Goals as goal

pub returns-in_err-take_in_one-clause-some : goal.returns-in_err-take_in_one-clause-some
returns-in_err-take_in_one-clause-some c =
    let l = c.loop-frame in
    on_err c.from_residual.result
    (takes_first c.args.as_of c.args.frames.now l.frame-index c.args.self.now l.self c.take_in_one.new.self l.invariant c.in_err-take_in_one.ensures.unchanged)

pub loop-frame-preserved : goal.loop-frame-preserved
loop-frame-preserved c =
    let l = c.loop-frame in
    takes_next c.args.as_of c.args.frames.now l.frame-index _ c.args.self.now l.self c.take_in_one.new.self c.loop-frame-test.true l.invariant
    c.in_ok-take_in_one.ensures.taken
