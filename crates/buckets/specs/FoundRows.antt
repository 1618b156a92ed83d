-- What is found in the rows of one partition, and in those of several.
-- To be believed of a crate used by itself: the answer isn't defined by partitions.
use Rattle.std.specs.Prelude.{ℕ, Bool, List, ◌++◌, map, Option, option_map, filter_map}
use Rattle.base.specs.Least.{least_by}
use Rattle.order_table.specs.Orders.{first_repeated, repeated_of}
use Rattle.order_table.specs.declared.table.Repeated.{Repeated}
use Rattle.probe.specs.Pricing.{first_unknown, priced, unknown_of}
use Rattle.probe.specs.Selection.{admits, kept}
use Rattle.row_types.specs.declared.trade.Sale.{Sale}
use Rattle.row_types.specs.declared.trade.Unknown.{Unknown}
use Rattle.meaning.specs.declared.query.What.{What}
use Rattle.morsel_rows.specs.Partitions.{PartitionView}
use Rattle.buckets.specs.BucketRows.{BucketView}
use Rattle.buckets.specs.Products.{product_of}
use Rattle.buckets.specs.declared.product.Product.{Product}

-- what is reported of the first order row that repeats a reference
abbrev pub repeated_in : PartitionView → Option Repeated
repeated_in rows = option_map repeated_of (first_repeated rows.orders)

-- what is reported of the first execution that has no price
abbrev pub unknown_in : PartitionView → Option Unknown
unknown_in rows = option_map unknown_of (first_unknown rows.orders rows.executions)

-- the trades: the executions at their orders' prices, and the sales that have a price of their own
abbrev pub trades_in : PartitionView → List Sale
trades_in rows = priced rows.orders rows.executions ++ rows.own_priced

-- of some trades those that are asked for of a bucket
abbrev pub kept_of : BucketView → List Sale → List Sale
kept_of bucket sales = kept bucket.breaks (admits bucket.selection) sales

-- the trades that are kept
abbrev pub sales_in : List ℕ → (Sale → Bool) → PartitionView → List Sale
sales_in breaks selection rows = kept breaks selection (trades_in rows)

-- what is found in the rows of one partition: the first repeated reference, the first unknown one, and what is listed
pub record FoundView : Type 0 where
  pub repeated : Option Repeated
  pub unknown : Option Unknown
  pub product : Product

-- the value of some rows, for what is listed, the broken match numbers and a selection
abbrev pub found_of : What → List ℕ → (Sale → Bool) → PartitionView → FoundView
found_of what breaks selection rows = record {
  repeated = repeated_in rows;
  unknown = unknown_in rows;
  product = product_of what (sales_in breaks selection rows);
}

-- what is found in several partitions: the faults of least place, and what each partition lists
pub record TotalView : Type 0 where
  pub repeated : Option Repeated
  pub unknown : Option Unknown
  pub products : List Product

-- the total of what is found in several partitions
abbrev pub all_found : List FoundView → TotalView
all_found found = record {
  repeated = least_by (λ repeated. repeated.place) (filter_map (λ one. one.repeated) found);
  unknown = least_by (λ unknown. unknown.place) (filter_map (λ one. one.unknown) found);
  products = map (λ one. one.product) found;
}
