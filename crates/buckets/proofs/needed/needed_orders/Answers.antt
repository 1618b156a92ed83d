use Rattle.std.proofs.Common.{rules, [], arith}
use Rattle.std.proofs.lemmas.Grind.{common_steps}
use Rattle.buckets.specs.BucketRows.{executed_in, rows_of_partitions}
use Rattle.buckets.proofs.needed.needed_orders.Goals as goal

pub returns : goal.returns
returns c =
    let rows = rows_of_partitions c.args.partitions.now in record {
      found = c.add_orders.new.filter;
      of = c.add_orders.ensures (executed_in rows) [] (c.add_executions.ensures [] [] (search rules));
      are = grind (arith, common_steps);
    }

pub loop-partition-preserved : goal.loop-partition-preserved
loop-partition-preserved c = grind (arith, common_steps)
