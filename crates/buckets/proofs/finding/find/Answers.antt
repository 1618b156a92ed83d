use Rattle.std.proofs.Common.{arith, refl, ap, ◌∙◌}
use Rattle.std.proofs.lemmas.Bool.Decides.{nat_tests}
use Rattle.probe.specs.Selection.{admits}
use Rattle.morsel_rows.specs.Partitions.{joined_partitions}
use Rattle.time_and_sales.specs.Lent.{AreApart}
use Rattle.buckets.specs.FoundRows.{kept_of, trades_in}
use Rattle.buckets.specs.BucketRows.{rows_of_partitions}
use Rattle.buckets.specs.Products.{by_place, product_of}
use Rattle.buckets.specs.declared.product.Product.TheVariants.{Listed}
use Rattle.buckets.proofs.ProductsOfSales.{listing_is_by_place}
use Rattle.buckets.proofs.RowsOfPartitions.{sales_apart}
use Rattle.buckets.proofs.finding.find.Goals as goal

pub of_sales-requires : goal.of_sales-requires
of_sales-requires c =
    let bucket = c.args.bucket.now in
    let rows = rows_of_partitions c.in_ok-partitions.partitions.items in
    rw (rw c.as_slice.ensures.value at c.in_ok-faults-in-Sales.ensures.sales)
    (sales_apart rows c.in_ok-partitions.ensures.by_place bucket.breaks (admits bucket.selection))

pub returns-in-Sales-clause-product : goal.returns-in-Sales-clause-product
returns-in-Sales-clause-product c =
    let bucket = c.args.bucket.now in
    let rows = rows_of_partitions c.in_ok-partitions.partitions.items in
    let are = rw c.as_slice.ensures.value at c.in_ok-faults-in-Sales.ensures.sales in
    let apart : AreApart c.in_ok-faults-in-Sales.sales.items =
    rw are (sales_apart rows c.in_ok-partitions.ensures.by_place bucket.breaks (admits bucket.selection)) in
    ap Listed (listing_is_by_place _ c.of_sales.result apart c.of_sales.ensures.permutation c.of_sales.ensures.by_place)
    ∙ ap (λ l. Listed (by_place l)) (are ∙ ap (λ r. kept_of bucket (trades_in r)) c.in_ok-partitions.ensures.rows)
    ∙ ap (λ what. product_of what (kept_of bucket (trades_in (joined_partitions bucket.rows)))) c.in-Sales.ensures.what

pub make_bars-requires-clause-width : goal.make_bars-requires-clause-width
make_bars-requires-clause-width c =
    let is_width = c.in-Bars.ensures.width c.in-Bars.width refl in
    grind (arith, nat_tests)
