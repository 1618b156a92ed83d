use Rattle.std.proofs.Common.{◌≡◌, ◌+◌, ◌≤◌, ◌++◌, [], true, arith, length, take, sym, subst, ap, ◌∙◌}
use Rattle.std.proofs.lemmas.List.{length-append}
use Rattle.sinks.proofs.TextParts.{all_so_far, further, part_taken, passed_on, rest_behind, so_far, whole_is}
use Rattle.sinks.specs.TextParts.{texts_in, together}
use Rattle.sinks.proofs.handing.put_in.Goals as goal

pub loop-ahead-preserved : goal.loop-ahead-preserved
loop-ahead-preserved g c =
    let header = c.args.header.now in
    let all = g.P.Parts.texts c.args.parts.now in
    let done = c.loop-ahead.ahead.done in
    let count = c.take-count.result.0 in
    let so = c.loop-ahead.invariant in
    let reached : c.start-in-loop-ahead.new.self.done ≡ done + count =
    c.start-in-loop-ahead.ensures.done ∙ c.take-count.ensures.done ∙ ap (λ n. n + count) c.start.ensures.done in
    let more = ap (so_far header all) reached ∙ further header all done count in
    let n = length-append (so_far header all done) (together (texts_in all done count)) in
    record {
      parts = c.start-in-loop-ahead.ensures.parts ∙ c.take-count.ensures.parts ∙ c.start.ensures.parts ∙ so.parts;
      follow = c.start-in-loop-ahead.ensures.follow;
      within = c.start-in-loop-ahead.ensures.within;
      took = subst (g.K.Sink.Took c.args.sink.now c.put_share.new.sink) (sym more)
          (g.met.K.Sink.took_more c.args.sink.now c.loop-ahead.sink c.put_share.new.sink _ _ so.took
          (subst (λ d. g.K.Sink.Took c.loop-ahead.sink c.put_share.new.sink (together (texts_in all d count))) c.start.ensures.done c.in-Ok.ensures.written.0));
      count = omega (arith, n, ap length more, so.count, c.in-Ok.ensures.count, ap (λ d. length (together (texts_in all d count))) c.start.ensures.done);
      short = omega (arith, so.short, c.in-Ok.ensures.short, reached);
      done = omega (arith, c.take-count.ensures.within.0, c.start-in-loop-ahead.ensures.done);
      whole = c.in-Ok.ensures.written.1;
    }

pub returns-in-Err-clause-written : goal.returns-in-Err-clause-written
returns-in-Err-clause-written g c =
    let header = c.args.header.now in
    let all = g.P.Parts.texts c.args.parts.now in
    let done = c.loop-ahead.ahead.done in
    let count = c.take-count.result.0 in
    let so = c.loop-ahead.invariant in
    let (few, took, failed) =
    subst (λ d. (c.in-Err.refused.written ≤ length (together (texts_in all d count)))
    × g.K.Sink.Took c.loop-ahead.sink c.put_share.new.sink (take c.in-Err.refused.written (together (texts_in all d count)))
    × (g.K.Sink.has_failed c.put_share.new.sink ≡ true)) c.start.ensures.done c.in-Err.ensures.written in
    let (within, taken) = part_taken (g.K.Sink.Took c.args.sink.now c.put_share.new.sink) (so_far header all done) (together (texts_in all done count)) (rest_behind header all done count)
    (header ++ together all) c.loop-ahead.written c.in-Err.refused.written (whole_is header all done count) so.count few
    (g.met.K.Sink.took_more c.args.sink.now c.loop-ahead.sink c.put_share.new.sink _ _ so.took took) in
    (within, taken, failed)

pub returns-clause-written : goal.returns-clause-written
returns-clause-written g c =
    let header = c.args.header.now in
    let all = g.P.Parts.texts c.args.parts.now in
    let so = c.loop-ahead.invariant in
    let whole = all_so_far header all c.loop-ahead.ahead.done (omega (arith, c.loop-ahead-test.false, c.count-all.ensures.count)) in
    passed_on g.K.Sink c.args.sink.now c.pass_on.new.sink (header ++ together all) c.loop-ahead.written c.pass_on.result
    (subst (λ text. g.K.Sink.Took c.args.sink.now c.pass_on.new.sink (text ++ [])) whole
    (g.met.K.Sink.took_more c.args.sink.now c.loop-ahead.sink c.pass_on.new.sink _ _ so.took c.pass_on.ensures.took))
    (so.count ∙ ap length whole) c.pass_on.ensures.failed c.pass_on.ensures.all
