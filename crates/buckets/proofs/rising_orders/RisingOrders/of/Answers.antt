use Rattle.std.proofs.Common.{◌≡◌, ◌∙◌, None, ap, arith, subst}
use Rattle.std.proofs.lemmas.Grind.{common_steps}
use Rattle.std.proofs.lemmas.List.{take_all}
use Rattle.order_table.specs.Orders.{first_repeated}
use Rattle.buckets.specs.BucketRows.{rows_of_partitions}
use Rattle.buckets.proofs.RisingRows.{none_twice}
use Rattle.buckets.proofs.rising_orders.RisingOrders.of.Goals as goal

pub returns-clause-repeated : goal.returns-clause-repeated
returns-clause-repeated c =
    let partitions = c.args.partitions.now in
    let all = c.loop-partition.invariant.rows
    ∙ ap (λ l. (rows_of_partitions l).orders) (take_all c.loop-partition.partition-index partitions (omega (arith, c.loop-partition-test.false))) in
    subst (λ l. first_repeated l ≡ None) all (none_twice c.loop-partition.lists.items c.loop-partition.invariant.rising)

pub loop-partition-preserved : goal.loop-partition-preserved
loop-partition-preserved c = grind (arith, common_steps)

pub returns-clause-rows : goal.returns-clause-rows
returns-clause-rows c = grind (arith, common_steps)
