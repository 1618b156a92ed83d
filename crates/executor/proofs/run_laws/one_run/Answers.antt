use Rattle.streaming.specs.Readings.{of_stream}
use Rattle.executor.proofs.RunLaws.{answers_of_one_day}
use Rattle.executor.proofs.run_laws.one_run.Goals as goal

pub returns : goal.returns
returns g c = λ once limit target before after words one other.
    answers_of_one_day (of_stream g.S.Source limit target before after)
    (λ day more p q. once before after day more p.gave q.gave) words one other
