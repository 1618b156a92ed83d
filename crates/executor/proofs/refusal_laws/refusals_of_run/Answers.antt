use Rattle.executor.proofs.refusal_laws.refusals_of_run.Goals as goal

pub returns-clause-unwritten : goal.returns-clause-unwritten
returns-clause-unwritten g c = λ limit target written before after words was is failed. failed

pub returns-clause-query : goal.returns-clause-query
returns-clause-query g c = λ limit target before after words was is fault (first, untouched, same). (first, untouched)

pub returns-clause-too_many : goal.returns-clause-too_many
returns-clause-too_many g c = λ limit target before after words was is (means, (day, all, cut), same). (day, all.gave, all.ended, cut)

pub returns-clause-memory : goal.returns-clause-memory
returns-clause-memory g c = λ limit target before after words was is (either, some, same). either
