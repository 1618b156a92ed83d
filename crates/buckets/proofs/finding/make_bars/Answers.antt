use Rattle.probe.specs.Selection.{admits}
use Rattle.bars.proofs.BarsOfSales.{table_is}
use Rattle.buckets.specs.BucketRows.{rows_of_partitions}
use Rattle.buckets.specs.FoundRows.{kept_of, trades_in}
use Rattle.buckets.proofs.RowsOfPartitions.{few_sales, sales_apart}
use Rattle.buckets.proofs.finding.make_bars.Goals as goal

pub of_ticks-requires-clause-sales : goal.of_ticks-requires-clause-sales
of_ticks-requires-clause-sales c =
    let rows = rows_of_partitions c.args.partitions.now in
    let bucket = c.args.bucket.now in
    let chosen = admits bucket.selection in (
      kept_of bucket (trades_in rows),
      c.in_ok-faults.ensures.sales,
      sales_apart rows c.requires.rows bucket.breaks chosen,
      few_sales rows c.requires.rows bucket.breaks chosen,
    )

pub returns-clause-bars : goal.returns-clause-bars
returns-clause-bars c =
    let sales = kept_of c.args.bucket.now (trades_in (rows_of_partitions c.args.partitions.now)) in
    table_is c.args.width sales c.of_ticks.result (c.of_ticks.ensures.bars sales c.in_ok-faults.ensures.sales)
