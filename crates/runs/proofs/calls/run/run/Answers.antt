use Rattle.std.proofs.Common.{arith}
use Rattle.streaming.specs.Readings.{of_stream}
use Rattle.runs.proofs.RunOutcomes.{ran}
use Rattle.runs.proofs.calls.run.run.Goals as goal

pub returns-clause-ran : goal.returns-clause-ran
returns-clause-ran g c =
    let settings = c.args.settings in
    let (day, read, may, is) = c.in_ok-made.ensures.answered in
    ran (of_stream g.S.Source settings.limit settings.morsel c.args.source.now c.answer_source.new.source) _
    c.in_ok-query.ensures.query c.in_ok-made.ensures.answered g.K.Sink _ _ _ c.hand_over.result (record { bytes = day; gave = read.gave; within = omega (arith, read.within) }) c.hand_over.ensures.handed
