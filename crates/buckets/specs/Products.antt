-- What is made of sales: a listing by place, or a table of bars.
-- To be believed of a crate used by itself: the value of a bucket is one listing, or one table.
use Rattle.std.specs.Prelude.{nat_lt, List, [], ◌∷◌, if◌then◌else◌}
use Rattle.row_types.specs.declared.trade.Sale.{Sale}
use Rattle.bars.specs.Steps.{bars_of}
use Rattle.meaning.specs.declared.query.What.{What}
use Rattle.meaning.specs.declared.query.What.TheVariants.{Sales, Bars}
use Rattle.buckets.specs.declared.product.Product.{Product}
use Rattle.buckets.specs.declared.product.Product.TheVariants.{Listed, Tabled}

-- a sale put before the first one of greater place
abbrev pub put_by_place : Sale → List Sale → List Sale
put_by_place sale [] = sale ∷ []
put_by_place sale (first ∷ rest) =
    if nat_lt sale.place first.place then sale ∷ first ∷ rest else first ∷ put_by_place sale rest

-- the sales by place
abbrev pub by_place : List Sale → List Sale
by_place [] = []
by_place (sale ∷ sales) = put_by_place sale (by_place sales)

-- what a query lists of sales
abbrev pub product_of : What → List Sale → Product
product_of Sales sales = Listed (by_place sales)
product_of (Bars width) sales = Tabled (bars_of width sales)
