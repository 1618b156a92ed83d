use Rattle.std.proofs.Common.{subst, arith}
use Rattle.std.proofs.lemmas.Grind.{common_steps}
use Rattle.order_list.specs.Filters.{IsFilterOf}
use Rattle.buckets.proofs.needed.add_executions.Goals as goal

pub loop-partition-preserved : goal.loop-partition-preserved
loop-partition-preserved c executed ordered was =
    subst (λ l. IsFilterOf l ordered c.add_executions_of.new.filter) (grind (arith, common_steps))
    (c.add_executions_of.ensures _ _ (c.loop-partition.invariant executed ordered was))

pub returns : goal.returns
returns c executed ordered was =
    subst (λ l. IsFilterOf l ordered c.loop-partition.filter) (grind (arith, common_steps)) (c.loop-partition.invariant executed ordered was)
