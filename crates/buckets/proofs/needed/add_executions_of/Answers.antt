use Rattle.std.proofs.Common.{subst, arith}
use Rattle.std.proofs.lemmas.Grind.{common_steps}
use Rattle.order_list.specs.Filters.{IsFilterOf}
use Rattle.buckets.proofs.needed.add_executions_of.Goals as goal

pub loop-execution-preserved : goal.loop-execution-preserved
loop-execution-preserved c executed ordered was =
    subst (λ l. IsFilterOf l ordered c.add_execution.new.self) (grind (arith, common_steps))
    (c.add_execution.ensures _ _ (c.loop-execution.invariant executed ordered was))

pub returns : goal.returns
returns c executed ordered was =
    subst (λ l. IsFilterOf l ordered c.loop-execution.filter) (grind (arith, common_steps)) (c.loop-execution.invariant executed ordered was)
