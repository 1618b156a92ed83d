-- What all buckets of a message list have found, and the text of what they list.
-- To be believed of a crate used by itself: the answer isn't defined by buckets.
use Rattle.std.specs.Prelude.{◌≡◌, ℕ, ◌<◌, ◌+◌, List, length, map, filter_map, All, Option, Some, None, IsPermutation}
use Rattle.base.specs.Least.{numbers_below}
use Rattle.base.specs.declared.limits.TheConstants.{TRADE_LIMIT}
use Rattle.order_table.specs.declared.table.Repeated.{Repeated}
use Rattle.probe.specs.Selection.{admits}
use Rattle.row_types.specs.declared.trade.Unknown.{Unknown}
use Rattle.row_types.specs.SalesByPlace.{IsByPlace}
use Rattle.time_and_sales.specs.Lent.{AreApart, all_sales}
use Rattle.time_and_sales.specs.Texts.{Sale, listing_text, sales_header}
use Rattle.row_types.specs.declared.directory.DirectoryRow.{DirectoryRow}
use Rattle.bars.specs.Bars.{AreBarsOf, all_bars}
use Rattle.bars.specs.Steps.{united}
use Rattle.bar.specs.declared.bar.Bar.{Bar}
use Rattle.bars.specs.Texts.{bars_header, bars_text}
use Rattle.meaning.specs.Meaning.{Meaning}
use Rattle.meaning.specs.declared.query.What.TheVariants.{Bars, Sales}
use Rattle.meaning.specs.declared.query.What.{What}
use Rattle.day_rows.specs.DayRows.{AreByPlace, AreStamped, IsStamped, rows_of}
use Rattle.outcomes.specs.declared.day_fault.DayFault.{DayFault}
use Rattle.outcomes.specs.declared.day_fault.DayFault.TheVariants.{RepeatedReference, UnknownReference}
use Rattle.day_rows.specs.Messages.{Placed, break_numbers, directory_rows, executions, own_priced_sales}
use Rattle.morsel_rows.specs.Partitions.{partition_of}
use Rattle.buckets.specs.FoundRows.{TotalView, all_found, found_of}
use Rattle.buckets.specs.Products.{by_place, product_of}
pub use Rattle.buckets.specs.declared.product.Product.{Product}
pub use Rattle.buckets.specs.declared.product.Product.TheVariants.{Listed, Tabled}
use Rattle.buckets.specs.Plans.{rising, selection_of}

-- what is found in n buckets of the rows of messages
abbrev pub found_in : ℕ → Meaning → List Placed → TotalView
found_in n query messages =
    all_found (map
    (λ b. found_of query.what (rising (break_numbers messages)) (admits (selection_of query (directory_rows messages)))
    (partition_of n (rows_of messages) b))
    (numbers_below n))

-- the total is that of all buckets of the messages, and these are their directory rows; the messages are by place and
-- have fewer trades than a file has room for
pub record AreGatheredOf (query : Meaning) (total : TotalView) (names : List DirectoryRow) (messages : List Placed)
    : Type 0 where
  pub parts : ℕ
  pub some : 0 < parts
  pub by_place : AreByPlace messages
  pub few : length (executions messages) + length (own_priced_sales messages) < TRADE_LIMIT
  pub stamped : AreStamped (rows_of messages)
  pub total_is : total ≡ found_in parts query messages
  pub names_are : names ≡ directory_rows messages

-- the first fault in the references: a repeated one before an unknown one
abbrev pub fault_from : Option Repeated → Option Unknown → Option DayFault
fault_from (Some repeated) unknown = Some (RepeatedReference repeated.place repeated.order_no)
fault_from None (Some unknown) = Some (UnknownReference unknown.place unknown.order_no)
fault_from None None = None

-- the sales that are listed, if it is a listing
abbrev pub listing_of : Product → Option (List Sale)
listing_of (Listed sales) = Some sales
listing_of (Tabled bars) = None

-- the bars, if it is a table
abbrev pub table_of : Product → Option (List Bar)
table_of (Listed sales) = None
table_of (Tabled bars) = Some bars

-- what a query lists of each of some lists of sales, which can be listed together: no place occurs twice, they are
-- fewer than a file has room for, and times and locates fit
pub record AreProductsOf (what : What) (lists : List (List Sale)) (products : List Product) : Type 0 where
  pub apart : AreApart (all_sales lists)
  pub few : length (all_sales lists) < TRADE_LIMIT
  pub stamped : All (λ sale. IsStamped sale.time sale.locate) (all_sales lists)
  pub are : products ≡ map (product_of what) lists

-- the text of these listings, or of these tables
abbrev pub text_of_lists : What → (ℕ → List ℕ) → List (List Sale) → List (List Bar) → List ℕ
text_of_lists Sales names listings tables = listing_text names (by_place (all_sales listings))
text_of_lists (Bars width) names listings tables = bars_text names (united (all_bars tables))

-- the text of all that is listed
abbrev pub text_of_products : What → (ℕ → List ℕ) → List Product → List ℕ
text_of_products what names products =
    text_of_lists what names (filter_map listing_of products) (filter_map table_of products)

-- the first line of the text
abbrev pub header_of : What → List ℕ
header_of Sales = sales_header
header_of (Bars width) = bars_header

-- the text of sales in any order: each is listed once, by place, or they have these bars
abbrev pub IsTextOfAll : What → (ℕ → List ℕ) → List Sale → List ℕ → Type 0
IsTextOfAll Sales names sales text =
    (listing : List Sale) × IsByPlace listing × IsPermutation sales listing × (text ≡ listing_text names listing)
IsTextOfAll (Bars width) names sales text =
    (table : List Bar) × AreBarsOf width sales table × (text ≡ bars_text names table)
