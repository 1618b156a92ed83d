use Rattle.buckets.specs.BucketRows.{rows_of_partitions}
use Rattle.buckets.proofs.RowsOfPartitions.{orders_apart}
use Rattle.buckets.proofs.trading.trade.Goals as goal

pub trade_executions-requires-clause-places : goal.trade_executions-requires-clause-places
trade_executions-requires-clause-places g c = orders_apart (rows_of_partitions c.args.partitions.now) c.requires.rows
