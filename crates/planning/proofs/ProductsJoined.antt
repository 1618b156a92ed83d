-- What is listed of many lists of sales, joined: one listing, or one table.
use Rattle.std.proofs.Common.{◌≡◌, ℕ, ◌+◌, ◌<◌, ◌≤◌, length, All, List, [], ◌∷◌, filter_map, map, IsPermutation, refl, sym, ap, ◌∙◌, subst, arith}
use Rattle.std.proofs.Common.{Option, Some, None, Ok}
use Rattle.std.proofs.lemmas.List.Sorted.{All-permutation, IsPermutation-append, length_permutation, IsPermutation-refl, IsPermutation-sym, IsPermutation-trans}
pub use Rattle.std.proofs.lemmas.Result.{IfOk-weaker as on_ok}
use Rattle.base.specs.declared.limits.TheConstants.{TIME_LIMIT, TRADE_LIMIT}
use Rattle.row_types.specs.declared.trade.Sale.{Sale}
use Rattle.bars.specs.Bars.{AreBarsOfEach, FitIfTraded, IsUnionOf, all_bars}
use Rattle.bar.specs.declared.bar.Bar.{Bar}
use Rattle.bars.specs.Steps.{bars_of, united}
use Rattle.bars.proofs.BarsOfSales.{AreBarsOf-union, bars_of_are, count_of_each, union_of_bars}
use Rattle.bars.proofs.JoinedTables.{count_of_united, united_is}
use Rattle.bars.proofs.SumsAreBounded.{all_sums_fit}
use Rattle.time_and_sales.proofs.SortedByPlace.{differ_in_order}
pub use Rattle.answers.proofs.SelectedSales.{times_fit}
use Rattle.meaning.specs.Meaning.{Meaning}
use Rattle.meaning.specs.declared.query.What.TheVariants.{Bars, Sales}
use Rattle.meaning.specs.declared.query.What.{What}
use Rattle.row_types.specs.declared.directory.DirectoryRow.{DirectoryRow}
use Rattle.time_and_sales.specs.Lent.{AreApart, all_sales}
use Rattle.day_rows.specs.Messages.{Placed}
use Rattle.buckets.specs.FoundRows.{TotalView}
use Rattle.buckets.specs.Products.{by_place, product_of}
use Rattle.buckets.proofs.ProductsOfSales.{by_place_is, by_place_rises}
use Rattle.planning.specs.AllBuckets.{AreGatheredOf, AreProductsOf, IsTextOfAll, Product, fault_from, listing_of, table_of, text_of_products}
use Rattle.time_and_sales.specs.Names.{name_of}
use Rattle.answers.specs.Answers.{IsAnswerToMessages}
use Rattle.planning.proofs.AnswerOfBuckets.{text_named}
use Rattle.planning.proofs.BucketsOfMessages.{lists_in, lists_listed}

-- what each product gives
given : {Y : Type 0} (f : Product → Option Y) (what : What) (g : List Sale → Y) → ((sales : List Sale) → f (product_of what sales) ≡ Some (g sales))
    → (lists : List (List Sale)) → filter_map f (map (product_of what) lists) ≡ map g lists
given f what g is [] = refl
given f what g is (sales ∷ lists) = rw (is sales) (ap (λ l. g sales ∷ l) (given f what g is lists))

-- ---- tables

each_bars : (width : ℕ) (lists : List (List Sale)) → AreBarsOfEach width lists (map (bars_of width) lists)
each_bars width [] = tt
each_bars width (sales ∷ lists) = (bars_of_are width sales, each_bars width lists)

module _ (width : ℕ) (lists : List (List Sale)) (products : List Product) (tables : List (List Bar)) (of : AreProductsOf (Bars width) lists products)
    (same : tables ≡ filter_map table_of products) where
  pub tables_are : AreBarsOfEach width lists tables
  tables_are =
      subst (AreBarsOfEach width lists)
      (sym (same ∙ ap (filter_map table_of) of.are ∙ given table_of (Bars width) (bars_of width) (λ sales. refl) lists)) (each_bars width lists)

  pub tables_sums : FitIfTraded (all_bars tables)
  tables_sums traded = all_sums_fit width lists tables tables_are traded (omega (arith, of.few))

  -- the table of all sales is the union of the tables of each list
  pub tables_union : IsUnionOf (all_bars tables) (bars_of width (all_sales lists))
  tables_union = union_of_bars width lists tables (bars_of width (all_sales lists)) tables_are (bars_of_are width (all_sales lists))

-- ---- listings

all_by_place : (lists : List (List Sale)) → IsPermutation (all_sales lists) (all_sales (map by_place lists))
all_by_place [] = IsPermutation-refl []
all_by_place (sales ∷ lists) = IsPermutation-append _ _ _ _ (by_place_is sales) (all_by_place lists)

module _ (lists : List (List Sale)) (products : List Product) (listings : List (List Sale)) (of : AreProductsOf Sales lists products)
    (same : listings ≡ filter_map listing_of products) where
  pub listings_are : IsPermutation (all_sales lists) (all_sales listings)
  listings_are =
      subst (λ l. IsPermutation (all_sales lists) (all_sales l))
      (sym (same ∙ ap (filter_map listing_of) of.are ∙ given listing_of Sales by_place (λ sales. refl) lists)) (all_by_place lists)

  pub listings_apart : AreApart (all_sales listings)
  listings_apart = differ_in_order _ _ listings_are of.apart

  pub listings_times : All (λ sale. sale.time < TIME_LIMIT) (all_sales listings)
  listings_times = All-permutation (λ (s : Sale). s.time < TIME_LIMIT) _ _ listings_are (times_fit (all_sales lists) of.stamped)

  pub listing_of_all : IsPermutation (all_sales listings) (by_place (all_sales lists))
  listing_of_all = IsPermutation-trans _ _ _ (IsPermutation-sym _ _ listings_are) (by_place_is (all_sales lists))

-- ---- of what is gathered

pub gathered_products : (query : Meaning) (total : TotalView) (names : List DirectoryRow) (messages : List Placed) (what : What) (products : List Product)
    → (of : AreGatheredOf query total names messages) → query.what ≡ what → products ≡ total.products
    → AreProductsOf what (lists_in of.parts query messages) products
gathered_products query total names messages what products of is same =
    subst (λ w. AreProductsOf w (lists_in of.parts query messages) products) is
    (lists_listed of.parts query messages products of.some of.by_place of.stamped of.few (same ∙ ap (λ (t : TotalView). t.products) of.total_is))

-- ---- the text of all that is listed

-- tables of few sales have few bars together
pub few_bars : (width : ℕ) (lists : List (List Sale)) (products : List Product) (tables : List (List Bar)) → AreProductsOf (Bars width) lists products
    → tables ≡ filter_map table_of products → length (united (all_bars tables)) < TRADE_LIMIT
few_bars width lists products tables of same =
    omega (arith, count_of_united (all_bars tables), count_of_each width lists tables (tables_are width lists products tables of same), of.few)

-- listings of few sales have few together
pub few_sales : (lists : List (List Sale)) (products : List Product) (listings : List (List Sale)) → AreProductsOf Sales lists products
    → listings ≡ filter_map listing_of products → length (by_place (all_sales listings)) < TRADE_LIMIT
few_sales lists products listings of same =
    omega (arith, length_permutation _ _ (by_place_is (all_sales listings)), length_permutation _ _ (listings_are lists products listings of same), of.few)

-- what lines of sales ask of listings, and those of bars of tables
pub can_list : (what : What) (lists : List (List Sale)) (products : List Product) (listings : List (List Sale)) → AreProductsOf what lists products
    → listings ≡ filter_map listing_of products → what ≡ Sales
    → AreApart (all_sales listings) × All (λ sale. sale.time < TIME_LIMIT) (all_sales listings) × (length (by_place (all_sales listings)) < TRADE_LIMIT)
can_list what lists products listings of same is =
    let sales = subst (λ w. AreProductsOf w lists products) is of in
    (listings_apart lists products listings sales same, listings_times lists products listings sales same, few_sales lists products listings sales same)

pub can_tabulate : (what : What) (lists : List (List Sale)) (products : List Product) (tables : List (List Bar)) → AreProductsOf what lists products
    → tables ≡ filter_map table_of products → (width : ℕ) → what ≡ Bars width
    → FitIfTraded (all_bars tables) × (length (united (all_bars tables)) < TRADE_LIMIT)
can_tabulate what lists products tables of same width is =
    let bars = subst (λ w. AreProductsOf w lists products) is of in
    (tables_sums width lists products tables bars same, few_bars width lists products tables bars same)

-- the text is that of all sales
pub text_is_of_all : (what : What) (names : ℕ → List ℕ) (lists : List (List Sale)) (products : List Product) → AreProductsOf what lists products
    → IsTextOfAll what names (all_sales lists) (text_of_products what names products)
text_is_of_all Sales names lists products of =
    let listings = filter_map listing_of products in
    let are = listings_are lists products listings of refl in (
      by_place (all_sales listings),
      by_place_rises (all_sales listings) (listings_apart lists products listings of refl),
      IsPermutation-trans _ _ _ are (by_place_is (all_sales listings)),
      refl,
    )
text_is_of_all (Bars width) names lists products of =
    let tables = filter_map table_of products in (
      united (all_bars tables),
      AreBarsOf-union width lists tables (united (all_bars tables)) (tables_are width lists products tables of refl) (united_is (all_bars tables)),
      refl,
    )

-- so it answers
pub text_listed : (query : Meaning) (total : TotalView) (rows : List DirectoryRow) (messages : List Placed) (what : What)
    → AreGatheredOf query total rows messages → query.what ≡ what → fault_from total.repeated total.unknown ≡ None
    → IsAnswerToMessages messages query (Ok (text_of_products what (name_of rows) total.products))
text_listed query total rows messages what are same none =
    text_named query total rows messages (name_of rows) _ what are same none (λ locate. refl)
    (text_is_of_all what (name_of rows) (lists_in are.parts query messages) total.products
    (gathered_products query total rows messages what total.products are same refl))
