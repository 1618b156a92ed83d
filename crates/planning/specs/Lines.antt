-- The texts of the parts of lines, and what they are of.
-- Derived: no public clause cites it.
use Rattle.std.specs.Prelude.{◌≡◌, ℕ, List, filter_map}
use Rattle.row_types.specs.declared.trade.Sale.{Sale}
use Rattle.time_and_sales.specs.Lent.{all_sales}
use Rattle.bar.specs.declared.bar.Bar.{Bar}
use Rattle.bars.specs.Bars.{all_bars}
use Rattle.bars.specs.Steps.{united}
use Rattle.buckets.specs.Products.{by_place}
use Rattle.planning.specs.AllBuckets.{Product, listing_of, table_of}
use Rattle.planning.specs.declared.lines.Lines.{Lines}
use Rattle.planning.specs.declared.lines.Lines.TheVariants.{OfSales, OfBars}

-- those of the lines of sales or of bars
abbrev pub texts_of : {J : Type 0} → Lines J → List (List ℕ)
texts_of (OfSales lines) = lines
texts_of (OfBars lines) = lines

-- these are the sales and the bars that products list together
pub record IsNamed (products : List Product) (sales : List Sale) (bars : List Bar) : Type 0 where
  pub sales_are : sales ≡ by_place (all_sales (filter_map listing_of products))
  pub bars_are : bars ≡ united (all_bars (filter_map table_of products))
