use Rattle.std.proofs.Common.{◌++◌, [], arith, length, sym, subst, ap, ◌∙◌}
use Rattle.std.proofs.lemmas.List.{length-append}
use Rattle.sinks.proofs.TextParts.{all_so_far, further, part_taken, passed_on, rest_behind, so_far, whole_is}
use Rattle.sinks.specs.TextParts.{texts_in, together}
use Rattle.sinks.proofs.handing.put_alone.Goals as goal

pub returns-in-Err-clause-written : goal.returns-in-Err-clause-written
returns-in-Err-clause-written g c =
    let header = c.args.header.now in
    let all = g.P.Parts.texts c.args.parts.now in
    let done = c.loop-part.part in
    let so = c.loop-part.invariant in
    let (few, took, failed) = c.in-Err.ensures.written in
    let (within, taken) = part_taken (g.K.Sink.Took c.args.sink.now c.put_share.new.sink) (so_far header all done) (together (texts_in all done 1)) (rest_behind header all done 1) _ c.loop-part.written
    c.in-Err.refused.written (whole_is header all done 1) so.count few
    (g.met.K.Sink.took_more c.args.sink.now c.loop-part.sink c.put_share.new.sink _ _ so.took took) in
    (within, taken, failed)

pub loop-part-preserved : goal.loop-part-preserved
loop-part-preserved g c =
    let header = c.args.header.now in
    let all = g.P.Parts.texts c.args.parts.now in
    let done = c.loop-part.part in
    let so = c.loop-part.invariant in
    let more = further header all done 1 in
    let n = length-append (so_far header all done) (together (texts_in all done 1)) in
    record {
      took = subst (g.K.Sink.Took c.args.sink.now c.put_share.new.sink) (sym more)
          (g.met.K.Sink.took_more c.args.sink.now c.loop-part.sink c.put_share.new.sink _ _ so.took c.in-Ok.ensures.written.0);
      count = omega (arith, n, ap length more, so.count, c.in-Ok.ensures.count);
      short = omega (arith, so.short, c.in-Ok.ensures.short);
      whole = c.in-Ok.ensures.written.1;
    }

pub returns-clause-written : goal.returns-clause-written
returns-clause-written g c =
    let header = c.args.header.now in
    let all = g.P.Parts.texts c.args.parts.now in
    let so = c.loop-part.invariant in
    let whole = all_so_far header all c.loop-part.part (omega (arith, c.loop-part-test.false, c.count-part-end.ensures.count)) in
    passed_on g.K.Sink c.args.sink.now c.pass_on.new.sink (header ++ together all) c.loop-part.written c.pass_on.result
    (subst (λ text. g.K.Sink.Took c.args.sink.now c.pass_on.new.sink (text ++ [])) whole
    (g.met.K.Sink.took_more c.args.sink.now c.loop-part.sink c.pass_on.new.sink _ _ so.took c.pass_on.ensures.took))
    (so.count ∙ ap length whole) c.pass_on.ensures.failed c.pass_on.ensures.all
