-- The bars of many tables whose locates are in a range are those of the range of their union.
use Rattle.std.proofs.Common.{◌≡◌, ℕ, ◌+◌, ◌*◌, ◌<◌, ◌≤◌, All, Bool, true, false, List, [], map, filter, get_or, refl}
use Rattle.std.proofs.Common.{ap, ◌∙◌, arith, subst, sum_by}
use Rattle.std.specs.List.Sorted.{IsNonDecreasingBy}
use Rattle.std.proofs.Math.Nat.{div-mul-le_self}
use Rattle.std.proofs.lemmas.Simd.{map-map}
use Rattle.std.proofs.lemmas.List.{get_or-map, length-map}
use Rattle.std.proofs.lemmas.Bool.{and_parts, eqb-true}
use Rattle.std.proofs.lemmas.Bool.Decides.{nat_tests}
use Rattle.std.proofs.lemmas.Map.Keys.{Less-from_sorted}
use Rattle.std.proofs.lemmas.List.Kept.{IsStrictlySortedBy-filter}
use Rattle.std.proofs.lemmas.List.Elements.{filter_agree, filter_passes, All-filter, All-map, All-weaker}
use Rattle.std.proofs.lemmas.List.Sorted.{IsNonDecreasingBy-from_all_adjacent}
use Rattle.base.specs.declared.limits.TheConstants.{NANOSECONDS, TIME_LIMIT}
use Rattle.base.proofs.Lists.{filter_of_filter}
use Rattle.time_and_sales.specs.Ranges.{is_in_first}
use Rattle.time_and_sales.proofs.InRanges.{in_first_alike, none_pass}
use Rattle.row_types.specs.declared.trade.Sale.{Sale}
use Rattle.time_and_sales.proofs.SortedByPlace.{no_sale}
use Rattle.bar.specs.declared.bar.Bar.{Bar}
use Rattle.bar.specs.OneBar.{Key, key_cmp}
use Rattle.bars.specs.Bars.{under, IsByKey, IsUnionOf, AllSumsFit}
use Rattle.bars.specs.Steps.{AreJoinedAlike, AreTraded, bar_of_one, bar_of_tick, bars_of, sale_of_tick}
use Rattle.bars.specs.declared.tick.Tick.{Tick}
use Rattle.bar_lines.specs.Told.{IsTold}
use Rattle.bar.proofs.OneBar.{has}
use Rattle.bars.proofs.JoinedTables.{Adds, alike_from, filter-map, of, sum_together, union_from}
use Rattle.bars.proofs.BarsOfSales.{ones_alike}

-- ---- by key is by locate

abbrev pub locate_of : Bar → ℕ
locate_of bar = bar.locate

pub locates_rise : (bars : List Bar) → IsByKey bars → IsNonDecreasingBy locate_of bars
locates_rise bars up =
    IsNonDecreasingBy-from_all_adjacent locate_of bars
    (λ k d h. let less = Less-from_sorted key_cmp bars k (k + 1) d up (omega arith) h in grind (arith, nat_tests))

-- a test that tells bars of one locate the same
abbrev pub IsOfLocates : (Bar → Bool) → Type 0
IsOfLocates test = (a b : Bar) → a.locate ≡ b.locate → test a ≡ test b

pub first_as_locate : (bounds : List ℕ) → IsOfLocates (is_in_first locate_of bounds)
first_as_locate bounds a b = in_first_alike locate_of locate_of bounds a b

-- ---- what there is under a key is in the range or it isn't

-- a bar under the key
abbrev at : Key → Bar
at key = record (bar_of_one 0 no_sale) { locate = key.locate; start = key.start }

module _ (test : Bar → Bool) (same : IsOfLocates test) where
  as_key : (key : Key) (bar : Bar) → has bar key ≡ true → test bar ≡ test (at key)
  as_key key bar h = same bar (at key) (eqb-true bar.locate key.locate (and_parts _ _ h).0)

  under_inside : (key : Key) (bars : List Bar) → test (at key) ≡ true → under key (filter test bars) ≡ under key bars
  under_inside key bars e = filter_of_filter (λ b. has b key) test (λ b h. as_key key b h ∙ e) bars

  under_outside : (key : Key) (bars : List Bar) → test (at key) ≡ false → under key (filter test bars) ≡ []
  under_outside key bars e = grind (arith, none_pass, All-weaker, as_key, filter_passes)

  -- ranges of what is joined alike are joined alike
  pub alike_within : (one other : List Bar) → AreJoinedAlike one other → AreJoinedAlike (filter test one) (filter test other)
  alike_within one other alike key = grind (arith, under_inside, under_outside)

  -- so the union of a range is the range of the union
  pub IsUnionOf-within : (bars table : List Bar) → IsUnionOf bars table → IsUnionOf (filter test bars) (filter test table)
  IsUnionOf-within bars table union =
      union_from (filter test bars) (filter test table) (IsStrictlySortedBy-filter key_cmp test table union.rise) (alike_within table bars (alike_from union))

  at_most : (f : Bar → ℕ) (key : Key) (bars : List Bar) → sum_by f (under key (filter test bars)) ≤ sum_by f (under key bars)
  at_most f key bars = grind (arith, under_inside, under_outside)

  -- and what is joined as they are fits where all bars do
  pub sums_within : (one bars : List Bar) → AreJoinedAlike one (filter test bars) → AllSumsFit bars → AllSumsFit one
  sums_within one bars alike fit = record {
    volume = λ key. omega (arith, less (λ b. b.volume) (λ a b. refl) key, fit.volume key);
    notional = λ key. omega (arith, less (λ b. b.notional) (λ a b. refl) key, fit.notional key);
    trades = λ key. omega (arith, less (λ b. b.trades) (λ a b. refl) key, fit.trades key);
  }
    where
      less : (f : Bar → ℕ) → Adds f → (key : Key) → sum_by f (under key one) ≤ sum_by f (under key bars)
      less f h key = omega (arith, sum_together f h key one, ap (of f) (alike key), sum_together f h key (filter test bars), at_most f key bars)

-- ---- ticks of a range

-- the bars of one sale each of a range are joined alike with the range of their table
sales_in_range : (bounds : List ℕ) (width : ℕ) (sales : List Sale)
    → AreJoinedAlike (map (bar_of_one width) (filter (is_in_first (λ (s : Sale). s.locate) bounds) sales))
    (filter (is_in_first locate_of bounds) (bars_of width sales))
sales_in_range bounds width sales =
    let test = is_in_first locate_of bounds in
    let same = λ (s : Sale). in_first_alike locate_of (λ (s : Sale). s.locate) bounds (bar_of_one width s) s refl in
    rw (← filter_agree (λ s. test (bar_of_one width s)) (is_in_first (λ (s : Sale). s.locate) bounds) same sales, ← filter-map (bar_of_one width) test sales)
    (alike_within test (first_as_locate bounds) (map (bar_of_one width) sales) (bars_of width sales) (ones_alike width sales))

-- so are those of one tick each
pub ticks_in_range : (bounds : List ℕ) (width : ℕ) (ticks : List Tick)
    → AreJoinedAlike (map (bar_of_tick width) (filter (is_in_first (λ (t : Tick). t.locate) bounds) ticks))
    (filter (is_in_first locate_of bounds) (bars_of width (map sale_of_tick ticks)))
ticks_in_range bounds width ticks =
    let one = bar_of_one width in
    let test = is_in_first (λ (s : Sale). s.locate) bounds in
    let ours = is_in_first (λ (t : Tick). t.locate) bounds in
    let same = λ (t : Tick). in_first_alike (λ (s : Sale). s.locate) (λ (t : Tick). t.locate) bounds (sale_of_tick t) t refl in
    let those : filter test (map sale_of_tick ticks) ≡ map sale_of_tick (filter ours ticks) =
    filter-map sale_of_tick test ticks ∙ ap (map sale_of_tick) (filter_agree (λ t. test (sale_of_tick t)) ours same ticks) in
    subst (λ l. AreJoinedAlike l (filter (is_in_first locate_of bounds) (bars_of width (map sale_of_tick ticks))))
    (ap (map one) those ∙ map-map one sale_of_tick (filter ours ticks)) (sales_in_range bounds width (map sale_of_tick ticks))

-- and each of them has a line
pub ticks_told : (test : Tick → Bool) (width : ℕ) (ticks : List Tick) → AreTraded ticks → All IsTold (map (bar_of_tick width) (filter test ticks))
ticks_told test width ticks traded =
    let one = bar_of_tick width in
    let n = length-map ticks sale_of_tick in
    let early : (t : Tick) → (sale_of_tick t).time < TIME_LIMIT → (one t).start < TIME_LIMIT =
    λ t h. omega (arith, h, div-mul-le_self (sale_of_tick t).time (width * NANOSECONDS)) in
    let all : All (λ t. IsTold (one t)) ticks = λ k d h.
    (traded.traded width k d h, early (get_or ticks k d) (rw (get_or-map sale_of_tick ticks k d (sale_of_tick d) h) at (traded.times k (sale_of_tick d) (omega (arith, n, h))))) in
    All-map IsTold one (filter test ticks) (All-filter test (λ t. IsTold (one t)) ticks all)
