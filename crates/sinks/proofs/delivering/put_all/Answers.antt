use Rattle.std.proofs.Common.{arith}
use Rattle.sinks.proofs.Written.{front_grows, front_stays, rest_length}
use Rattle.sinks.proofs.delivering.put_all.Goals as goal

pub loop-written-preserved : goal.loop-written-preserved
loop-written-preserved g c =
    let took = g.met.K.Sink.took_more c.args.sink.now c.loop-written.sink c.put.new.self _ _ c.loop-written.invariant.took c.in-Ok.ensures.took in
    let rest = rest_length c.loop-written.written c.args.text.now in
    record {
      within = omega (arith, rest, c.in-Ok.ensures.count);
      took = front_grows (g.K.Sink.Took c.args.sink.now c.put.new.self) c.loop-written.written c.in-Ok.count c.args.text.now took;
      whole = c.in-Ok.ensures.failed;
    }

pub returns-in-Err : goal.returns-in-Err
returns-in-Err g c = (
  c.loop-written.invariant.within,
  front_stays (g.K.Sink.Took c.args.sink.now c.put.new.self) _
      (g.met.K.Sink.took_more c.args.sink.now c.loop-written.sink c.put.new.self _ _ c.loop-written.invariant.took c.in-Err.ensures.took),
  c.in-Err.ensures.failed,
)
