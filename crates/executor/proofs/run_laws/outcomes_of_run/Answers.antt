use Rattle.std.proofs.Common.{arith}
use Rattle.streaming.specs.Readings.{of_stream}
use Rattle.executor.proofs.RunLaws.{left_alone}
use Rattle.executor.proofs.run_laws.outcomes_of_run.Goals as goal

pub returns-clause-ended : goal.returns-clause-ended
returns-clause-ended g c = λ limit target before after words told (query, means, (day, all, may, is)). (day, all.gave, all.ended, all.within)

pub returns-clause-too_long : goal.returns-clause-too_long
returns-clause-too_long g c = λ limit target most before after words was is (means, more, at, same). (more.bytes, more.gave, omega (arith, more.more, at))

pub returns-clause-written : goal.returns-clause-written
returns-clause-written g c = λ limit target before after words was is done (text, answers, took, flushed). (text, took, flushed)

pub returns-clause-refused : goal.returns-clause-refused
returns-clause-refused g c = λ limit target before after words.
    left_alone (of_stream g.S.Source limit target before after) g.K.Sink words limit
