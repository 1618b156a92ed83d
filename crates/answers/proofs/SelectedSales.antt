-- What is listed is what the query asks for.
use Rattle.std.proofs.Common.{◌≡◌, ◌<◌, ◌+◌, ◌^◌, ℕ, Bool, ◌&&◌, not, cond, ltb, List, [], ◌∷◌, ◌++◌, All, IsPermutation, length, refl}
use Rattle.std.proofs.Common.{arith, length-append}
use Rattle.std.specs.List.Sorted.{IsStrictlySortedBy}
use Rattle.std.proofs.lemmas.List.Elements.{All-head, All-tail, All-weaker}
use Rattle.std.proofs.lemmas.List.Sorted.{All-permutation, length_permutation}
use Rattle.base.specs.Among.{is_among}
use Rattle.base.specs.declared.limits.TheConstants.{TIME_LIMIT}
use Rattle.row_types.specs.declared.order.OrderRow.{OrderRow}
use Rattle.probe.specs.Pricing.{Execution, Sale, priced}
use Rattle.probe.specs.Selection.{admits}
use Rattle.probe.specs.Selection.{kept}
use Rattle.probe.specs.declared.selection.Selection.{Selection}
use Rattle.probe.proofs.KeptSales.{kept_have_shares, length-kept, length-priced}
use Rattle.row_types.specs.SalesByPlace.{place_cmp}
use Rattle.time_and_sales.specs.Lent.{AreApart}
use Rattle.time_and_sales.specs.Names.{DirectoryRow, IsNamesOf, names_by}
use Rattle.time_and_sales.specs.declared.names.Names.{Names}
use Rattle.meaning.specs.Meaning.{Meaning}
use Rattle.meaning.specs.Selected.{locates_of}
use Rattle.meaning.proofs.ListedLocates.{locates_agree}
use Rattle.answers.specs.Answers.{asks_for, selected_sales}
use Rattle.day_rows.specs.Messages.{Placed, order_rows, executions, own_priced_sales, break_numbers, directory_rows}
use Rattle.day_rows.specs.DayRows.{AreByPlace, IsStamped}
use Rattle.day_rows.proofs.RowsByPlace.{distinct_places}
use Rattle.day_rows.proofs.TradesOfRows.{listing_is}

-- ---- a selection with the query's locates admits what the query asks for

pub agrees : {A B : Type 0} (query : Meaning) (rows : List DirectoryRow) (names : Names A) (selection : Selection B) → IsNamesOf rows names
    → selection.locates ≡ locates_of query.symbols (names_by names) → selection.span ≡ query.span
    → selection.kinds ≡ query.kinds → (sale : Sale) → sale.locate < 2 ^ 16 → admits selection sale ≡ asks_for query rows sale
agrees {A} {B} query rows names selection are locates span kinds sale small = grind (arith, locates_agree)

-- so it keeps the same
pub keeps_asked : (breaks : List ℕ) (p q : Sale → Bool) (sales : List Sale) → ((sale : Sale) → sale.locate < 2 ^ 16 → p sale ≡ q sale)
    → All (λ s. IsStamped s.time s.locate) sales → kept breaks p sales ≡ kept breaks q sales
keeps_asked breaks p q [] agree fit = refl
keeps_asked breaks p q (x ∷ xs) agree fit =
    let same = agree x (All-head (λ (s : Sale). IsStamped s.time s.locate) x xs fit).1 in
    let more = keeps_asked breaks p q xs agree (All-tail (λ (s : Sale). IsStamped s.time s.locate) x xs fit) in
    (λ i. cond (not (is_among breaks x.trade_no) && (same i && ltb 0 x.shares)) (x ∷ more i) (more i))

-- ---- the listing

-- what a selection with those locates keeps is listed
pub selected : {A B : Type 0} (messages : List Placed) (query : Meaning) (names : Names A) (selection : Selection B) (breaks : List ℕ)
    (all listing : List Sale) → AreByPlace messages → breaks ≡ break_numbers messages
    → all ≡ priced (order_rows messages) (executions messages) ++ own_priced_sales messages → All (λ s. IsStamped s.time s.locate) all
    → IsNamesOf (directory_rows messages) names → selection.locates ≡ locates_of query.symbols (names_by names)
    → selection.span ≡ query.span → selection.kinds ≡ query.kinds → IsStrictlySortedBy place_cmp listing
    → IsPermutation (kept breaks (admits selection) all) listing → listing ≡ selected_sales query messages
selected messages query names selection breaks all listing up breaks_are all_are fit are locates span kinds rising permutation =
    let asked = asks_for query (directory_rows messages) in
    let same = keeps_asked breaks (admits selection) asked all (agrees query (directory_rows messages) names selection are locates span kinds) fit in
    listing_is asked messages listing up rising (rw (← breaks_are, ← all_are, ← same) permutation)

-- ---- what may be asked of a table of bars of it

-- the times fit
pub times_fit : (sales : List Sale) → All (λ sale. IsStamped sale.time sale.locate) sales → All (λ sale. sale.time < TIME_LIMIT) sales
times_fit sales stamped = All-weaker (λ (s : Sale). IsStamped s.time s.locate) (λ (s : Sale). s.time < TIME_LIMIT) (λ s fits. fits.0) sales stamped

pub listing_places : (listing : List Sale) → IsStrictlySortedBy place_cmp listing → AreApart listing
listing_places listing rising = distinct_places (λ (s : Sale). s.place) listing rising

pub listing_shares : (breaks : List ℕ) (asked : Sale → Bool) (all listing : List Sale) → IsPermutation (kept breaks asked all) listing
    → All (λ s. 0 < s.shares) listing
listing_shares breaks asked all listing permutation =
    All-permutation (λ (s : Sale). 0 < s.shares) _ listing permutation (kept_have_shares breaks asked all)

pub listing_few : (limit : ℕ) (orders : List OrderRow) (executed : List Execution) (breaks : List ℕ) (asked : Sale → Bool) (own all listing : List Sale)
    → all ≡ priced orders executed ++ own → IsPermutation (kept breaks asked all) listing → length executed + length own < limit → length listing < limit
listing_few limit orders executed breaks asked own all listing e permutation few = grind (arith, length_permutation, length-kept, length-append, length-priced)
