-- A sale in whole seconds has the same bar, so ticks have the bars of their sales.
use Rattle.std.proofs.Common.{◌≡◌, ℕ, ◌+◌, ◌<◌, ◌≤◌, All, List, [], ◌∷◌, length, map, refl, sym, ap, ap₂, ◌∙◌, subst, arith}
use Rattle.std.proofs.Common.{◌++◌, IsPermutation, nat_eq}
use Rattle.std.specs.List.{IsDistinct}
use Rattle.std.specs.List.Sorted.{IsNonDecreasingBy}
use Rattle.std.proofs.Math.Nat.{div-mul-le_self}
use Rattle.std.proofs.lemmas.List.{length-map, map_push}
use Rattle.std.proofs.lemmas.List.Elements.{All-map, All-push}
use Rattle.std.proofs.lemmas.List.Sorted.{All-permutation, IsPermutation-map}
use Rattle.std.proofs.lemmas.List.Sorted.{IsPermutation-trans, length_permutation}
use Rattle.base.specs.declared.limits.TheConstants.{NANOSECONDS, SECONDS_OF_DAY, TIME_LIMIT, TRADE_LIMIT}
use Rattle.row_types.specs.declared.trade.Sale.{Sale}
use Rattle.time_and_sales.specs.Lent.{AreApart}
use Rattle.time_and_sales.proofs.SortedByPlace.{differ_in_order}
use Rattle.bar.specs.declared.bar.Bar.{Bar}
use Rattle.bar.specs.OneBar.{IsTraded}
use Rattle.bars.specs.Bars.{AreBarsOf}
use Rattle.bars.specs.Steps.{AreKept, AreTraded, bar_of_one, bar_of_tick, bars_of, in_seconds, put, sale_of_tick}
use Rattle.bars.specs.declared.tick.Tick.{Tick}
use Rattle.bars.proofs.BarsOfSales.{AreBarsOf-sorted, bars_of_are, bars_traded, ones_alike, table_is}
use Rattle.bars.proofs.Seconds.{start_in_seconds}
use Rattle.bars.proofs.SumsAreBounded.{starts_of_sales}

-- ---- the bar of a sale in whole seconds

bar_in_seconds : (width : ℕ) (sale : Sale) → bar_of_one width (in_seconds sale) ≡ bar_of_one width sale
bar_in_seconds width sale = ap (λ m. record (bar_of_one width sale) { start = m }) (start_in_seconds width sale.time)

pub table_in_seconds : (width : ℕ) (sales : List Sale) → bars_of width (map in_seconds sales) ≡ bars_of width sales
table_in_seconds width [] = refl
table_in_seconds width (x ∷ xs) = ap₂ put (bar_in_seconds width x) (table_in_seconds width xs)

places_in_seconds : (sales : List Sale) → map (λ (s : Sale). s.place) (map in_seconds sales) ≡ map (λ (s : Sale). s.place) sales
places_in_seconds [] = refl
places_in_seconds (x ∷ xs) = ap (λ l. x.place ∷ l) (places_in_seconds xs)

-- so a table of sales in whole seconds is that of the sales
pub bars_in_seconds : (width : ℕ) (sales : List Sale) (table : List Bar) → AreBarsOf width (map in_seconds sales) table → AreBarsOf width sales table
bars_in_seconds width sales table are =
    subst (AreBarsOf width sales) (sym (table_is width (map in_seconds sales) table are ∙ table_in_seconds width sales)) (bars_of_are width sales)

-- and places that differ are those of ticks
pub ticks_apart : (sales : List Sale) (ticks : List Tick) → map sale_of_tick ticks ≡ map in_seconds sales → AreApart sales → AreApart (map sale_of_tick ticks)
ticks_apart sales ticks are apart = rw are (subst (IsDistinct nat_eq) (sym (places_in_seconds sales)) apart)

-- ticks, and that of a sale of some shares behind them
pub traded_more : (ticks : List Tick) (tick : Tick) (sale : Sale) → AreTraded ticks → sale_of_tick tick ≡ in_seconds sale → 0 < sale.shares
    → sale.time < TIME_LIMIT → (0 < sale.shares → (width : ℕ) → IsTraded (bar_of_tick width tick)) → AreTraded (ticks ++ tick ∷ [])
traded_more ticks tick sale are is some early traded = record {
  shares = rw map_push (All-push (λ (s : Sale). 0 < s.shares) (map sale_of_tick ticks) (sale_of_tick tick) are.shares
      (subst (λ (s : Sale). 0 < s.shares) (sym is) some));
  times = rw map_push (All-push (λ (s : Sale). s.time < TIME_LIMIT) (map sale_of_tick ticks) (sale_of_tick tick) are.times
      (subst (λ (s : Sale). s.time < TIME_LIMIT) (sym is) (omega (arith, early, div-mul-le_self sale.time NANOSECONDS))));
  traded = λ width. All-push (λ (t : Tick). IsTraded (bar_of_tick width t)) ticks tick (are.traded width) (traded some width);
}

-- ---- sorted ticks

-- ticks that have moved, and move once more
pub moved_on : (ticks moved more : List Tick) → IsPermutation ticks moved → IsPermutation moved more → IsPermutation ticks more
moved_on = IsPermutation-trans

-- ticks in another order are traded as well
traded_in_order : (ticks sorted : List Tick) → IsPermutation ticks sorted → AreTraded ticks → AreTraded sorted
traded_in_order ticks sorted perm are =
    let order = IsPermutation-map sale_of_tick ticks sorted perm in
    record {
      shares = All-permutation (λ (s : Sale). 0 < s.shares) (map sale_of_tick ticks) (map sale_of_tick sorted) order are.shares;
      times = All-permutation (λ (s : Sale). s.time < TIME_LIMIT) (map sale_of_tick ticks) (map sale_of_tick sorted) order are.times;
      traded = λ width. All-permutation (λ (t : Tick). IsTraded (bar_of_tick width t)) ticks sorted perm (are.traded width);
    }

-- ---- ticks that bars are kept as

-- those of some sales, in order
pub kept_of : (width : ℕ) (sales : List Sale) (ticks sorted : List Tick) → map sale_of_tick ticks ≡ map in_seconds sales → AreApart sales
    → length sales < TRADE_LIMIT → (1 ≤ width) × (width ≤ SECONDS_OF_DAY) → AreTraded ticks → IsPermutation ticks sorted
    → IsNonDecreasingBy (λ (t : Tick). t.locate) sorted → AreKept width sorted
kept_of width sales ticks sorted are apart few within traded perm rise =
    let order = IsPermutation-map sale_of_tick ticks sorted perm in
    record {
      places = differ_in_order (map sale_of_tick ticks) (map sale_of_tick sorted) order (ticks_apart sales ticks are apart);
      count = omega (
        arith,
        length_permutation ticks sorted perm,
        length-map sales in_seconds,
        length-map ticks sale_of_tick,
        ap length are,
        few,
      );
      within_day = within;
      locates = rise;
      traded = traded_in_order ticks sorted perm traded;
    }

-- and their bars are those of the sales
pub bars_of_kept : (width : ℕ) (sales : List Sale) (ticks sorted : List Tick) → map sale_of_tick ticks ≡ map in_seconds sales
    → AreApart (map sale_of_tick ticks) → IsPermutation ticks sorted → AreBarsOf width sales (bars_of width (map sale_of_tick sorted))
bars_of_kept width sales ticks sorted are apart perm =
    let table = bars_of width (map sale_of_tick sorted) in
    let kept = AreBarsOf-sorted width (map sale_of_tick ticks) (map sale_of_tick sorted) table (IsPermutation-map sale_of_tick ticks sorted perm) apart
    (bars_of_are width (map sale_of_tick sorted)) in
    bars_in_seconds width sales table (subst (λ l. AreBarsOf width l table) are kept)

-- the bar of each is traded
pub kept_traded : (width : ℕ) (ticks : List Tick) → AreKept width ticks → All IsTraded (bars_of width (map sale_of_tick ticks))
kept_traded width ticks kept =
    let sales = map sale_of_tick ticks in
    bars_traded width sales (bars_of width sales) (All-map (λ (s : Sale). IsTraded (bar_of_one width s)) sale_of_tick ticks (kept.traded.traded width))
    (bars_of_are width sales)

-- and starts at a message's time
pub kept_start : (width : ℕ) (ticks : List Tick) → AreKept width ticks → All (λ bar. bar.start < TIME_LIMIT) (bars_of width (map sale_of_tick ticks))
kept_start width ticks kept =
    let sales = map sale_of_tick ticks in starts_of_sales width sales (bars_of width sales) (λ key. sym (ones_alike width sales key)) kept.traded.times

-- what stands where there is no tick
abbrev pub no_tick : Tick
no_tick = record { shares = 0; second = 0; price = 0; place_low = 0; place_high = 0; locate = 0 }
