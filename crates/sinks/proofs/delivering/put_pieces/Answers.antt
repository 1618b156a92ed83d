use Rattle.std.proofs.Common.{length, arith, ap, subst, take}
use Rattle.sinks.proofs.Written.{count_within, part_written}
use Rattle.sinks.proofs.delivering.put_pieces.Goals as goal

pub overflow_add-written : goal.overflow_add-written
overflow_add-written g c =
    let within = count_within c.args.pieces.now c.loop-piece.piece-index c.loop-piece.written c.piece-item.result c.loop-piece-test.true c.piece-item.is
    c.loop-piece.invariant.count in
    omega (arith, within, c.requires.short, c.len.ensures, c.piece-item.result.ok.0)

pub overflow_add-result : goal.overflow_add-result
overflow_add-result g c =
    let within = count_within c.args.pieces.now c.loop-piece.piece-index c.loop-piece.written c.piece-item.result c.loop-piece-test.true c.piece-item.is
    c.loop-piece.invariant.count in
    omega (arith, within, c.requires.short, c.in-Err.ensures.0, ap length c.as_slice.ensures.value)

pub returns-in-Err-clause-written : goal.returns-in-Err-clause-written
returns-in-Err-clause-written g c =
    let part = c.in-Err.refused.written in
    let (few, took, failed) = c.in-Err.ensures in
    let within = count_within c.args.pieces.now c.loop-piece.piece-index c.loop-piece.written c.piece-item.result c.loop-piece-test.true c.piece-item.is
    c.loop-piece.invariant.count in (
      omega (arith, within, few, ap length c.as_slice.ensures.value),
      part_written c.args.pieces.now (g.K.Sink.Took c.args.sink.now c.put_all.new.sink) c.loop-piece.piece-index c.loop-piece.written part
          c.piece-item.result c.loop-piece-test.true c.piece-item.is c.loop-piece.invariant.count
          (omega (arith, few, ap length c.as_slice.ensures.value))
          (g.met.K.Sink.took_more c.args.sink.now c.loop-piece.sink c.put_all.new.sink _ _ c.loop-piece.invariant.took
          (subst (λ l. g.K.Sink.Took c.loop-piece.sink c.put_all.new.sink (take part l)) c.as_slice.ensures.value took)),
      failed,
    )
