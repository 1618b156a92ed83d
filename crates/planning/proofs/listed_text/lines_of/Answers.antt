use Rattle.std.proofs.Common.{ap, sym, subst, ◌∙◌, IsPermutation}
use Rattle.time_and_sales.specs.Lent.{all_sales, lent}
use Rattle.row_types.specs.SalesByPlace.{IsByPlace}
use Rattle.bars.specs.Bars.{IsUnionOf, all_bars}
use Rattle.bars.proofs.JoinedTables.{united_is}
use Rattle.buckets.proofs.ProductsOfSales.{by_place_is, by_place_rises}
use Rattle.planning.proofs.listed_text.lines_of.Goals as goal

pub new-requires-clause-by_place : goal.new-requires-clause-by_place
new-requires-clause-by_place g c lifetimes within =
    subst IsByPlace (sym c.requires.named_sales) (by_place_rises (all_sales (lent c.args.listings.now)) (c.requires.sales c.in-Sales.is).0)

pub new-requires-clause-all : goal.new-requires-clause-all
new-requires-clause-all g c lifetimes within =
    subst (IsPermutation (all_sales (lent c.args.listings.now))) (sym c.requires.named_sales) (by_place_is (all_sales (lent c.args.listings.now)))

pub new-requires-in-Bars-clause-union : goal.new-requires-in-Bars-clause-union
new-requires-in-Bars-clause-union g c =
    subst (IsUnionOf (all_bars (lent c.args.tables.now))) (sym c.requires.named_bars) (united_is (all_bars (lent c.args.tables.now)))
