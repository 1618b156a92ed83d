use Rattle.sinks.proofs.TextParts.{and_rest, part_taken, rest_of}
use Rattle.sinks.proofs.shares.put_slowly.Goals as goal

pub returns-in-Err-clause-written : goal.returns-in-Err-clause-written
returns-in-Err-clause-written g c =
    let all = g.P.Parts.texts c.args.parts.now in
    let k = c.loop-number.number in
    let so_far = c.loop-number.invariant in
    let (few, took, failed) = c.in-Err.ensures.written in
    let (within, taken) = part_taken (g.K.Sink.Took c.args.sink.now c.put.new.sink) _ _ (rest_of all c.args.first k c.args.count) _ c.loop-number.written
    c.in-Err.refused.written (and_rest all c.args.first k c.args.count c.loop-number-test.true c.requires.within) so_far.count few
    (g.met.K.Sink.took_more c.args.sink.now c.loop-number.sink c.put.new.sink _ _ so_far.took took) in
    (within, taken, failed)
