use Rattle.block_scan.specs.Blocks.{of_blocks}
use Rattle.executor.proofs.RunLaws.{left_alone}
use Rattle.executor.proofs.run_laws.outcomes_of_run_blocks.Goals as goal

pub returns-clause-ended : goal.returns-clause-ended
returns-clause-ended g c = λ limit source words told (query, means, (day, all, may, is)). (day, all.gave, all.ended, all.within)

pub returns-clause-too_long : goal.returns-clause-too_long
returns-clause-too_long g c = λ limit most source words was is (means, more, at, same). (more.0, rw at more.1)

pub returns-clause-failed : goal.returns-clause-failed
returns-clause-failed g c = λ limit source words was is (means, failed, same). failed

pub returns-clause-written : goal.returns-clause-written
returns-clause-written g c = λ limit source words was is done (text, answers, took, flushed). (text, took, flushed)

pub returns-clause-refused : goal.returns-clause-refused
returns-clause-refused g c = λ limit source words. left_alone (of_blocks g.S.BlockSource limit source) g.K.Sink words limit
