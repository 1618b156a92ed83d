use Rattle.std.proofs.Common.{arith}
use Rattle.sinks.proofs.Written.{front_stays, whole_front}
use Rattle.sinks.proofs.delivering.deliver.Goals as goal

pub returns-in-Ok-clause-written : goal.returns-in-Ok-clause-written
returns-in-Ok-clause-written g c = (
  front_stays (g.K.Sink.Took c.args.sink.now c.flush.new.self) _
      (g.met.K.Sink.took_more c.args.sink.now c.put_all.new.sink c.flush.new.self _ _ c.in_ok-put_all.ensures.0 c.in-Ok.ensures.took),
  c.in-Ok.ensures.failed,
)

pub returns-in-Err-clause-written : goal.returns-in-Err-clause-written
returns-in-Err-clause-written g c = (
  omega arith,
  whole_front (g.K.Sink.Took c.args.sink.now c.flush.new.self) _
      (g.met.K.Sink.took_more c.args.sink.now c.put_all.new.sink c.flush.new.self _ _ c.in_ok-put_all.ensures.0 c.in-Err.ensures.took),
  c.in-Err.ensures.failed,
)
