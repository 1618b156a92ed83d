-- The sums of a bar: how large they can be, and what they mean for the text of a bar.
use Rattle.std.proofs.Common.{◌≡◌, ℕ, ◌+◌, ◌-◌, ◌*◌, ◌^◌, ◌<◌, ◌≤◌, true, All, List, [], ◌∷◌, ◌++◌, length, map, take, drop, get_or, Some}
use Rattle.std.proofs.Common.{Contains, Equal, None, append_assoc, refl, sym, ap, ◌∙◌, arith, sum_by}
use Rattle.std.proofs.lemmas.List.{take-append-drop}
use Rattle.std.proofs.lemmas.List.Sums.{count_by-le-length, length-filter, sum_by-append, sum_by-cons}
use Rattle.std.proofs.lemmas.List.Elements.{All-filter, All-head, All-map, All-tail, All-weaker, filter-append, filter_more}
use Rattle.std.proofs.Math.Nat.{div-mul-le_self}
use Rattle.base.specs.declared.limits.TheConstants.{NANOSECONDS, TIME_LIMIT, TRADE_LIMIT}
use Rattle.row_types.specs.declared.trade.Sale.{Sale}
use Rattle.time_and_sales.specs.Lent.{all_sales}
use Rattle.bar.specs.declared.bar.Bar.{Bar}
use Rattle.bar.specs.OneBar.{Key, interval_start, has_key, bar_of, key_cmp, CanJoin, IsTraded}
use Rattle.bars.specs.Bars.{AreBarsOf, AreBarsOfEach, IsUnionOf, AllSumsFit, joined_all, under, all_bars}
use Rattle.bars.specs.Steps.{AreJoinedAlike, bar_of_one}
use Rattle.bars.specs.Texts.{IsWritable}
use Rattle.bar.proofs.OneBar.{average_fits, has, has_itself, key_of, same_has}
use Rattle.bars.proofs.Bars.{found_itself}
use Rattle.bars.proofs.JoinedTables.{Adds, IsOrderOf, alike_from, of, sum_of_joined, sum_together}
use Rattle.bars.proofs.StartsAlike.{starts_alike}
use Rattle.bars.proofs.BarsOfSales.{each_alike, ones_union, together_ones}

-- ---- the sums of few sales fit

trades_of : (key : Key) (sales : List Sale) → of (λ b. b.trades) (bar_of key sales) ≡ length sales
unfolding of
trades_of key sales = grind arith

few_trades : (width : ℕ) (sales : List Sale) (bars : List Bar) → AreJoinedAlike bars (map (bar_of_one width) sales) → (key : Key)
    → sum_by (λ (b : Bar). b.trades) (under key bars) ≤ length sales
few_trades width sales bars alike key =
    let same = alike key ∙ together_ones width key sales in
    let short = count_by-le-length (has_key width key) sales in
    grind (arith, sum_together (λ b. b.trades) (λ a b. refl) key bars, trades_of, length-filter)

sums_of_traded : (bars : List Bar) → All IsTraded bars
    → (sum_by (λ (b : Bar). b.volume) bars ≤ sum_by (λ (b : Bar). b.trades) bars * 2 ^ 64) ×
    (sum_by (λ (b : Bar). b.notional) bars ≤ sum_by (λ (b : Bar). b.volume) bars * (2 ^ 32 - 1))
sums_of_traded [] h = (omega arith, omega arith)
sums_of_traded (x ∷ xs) h =
    let one = All-head IsTraded x xs h in
    let more = sums_of_traded xs (All-tail IsTraded x xs h) in
    (omega (arith, one.2, more.0, sum_by-cons {X = Bar}), omega (arith, one.1, more.1, sum_by-cons {X = Bar}))

-- the sums of the bars of fewer sales than a file has room for fit, in whatever bars the sales are
pub sums_of_few : (width : ℕ) (sales : List Sale) (bars : List Bar) → AreJoinedAlike bars (map (bar_of_one width) sales) → All IsTraded bars
    → length sales < TRADE_LIMIT → AllSumsFit bars
sums_of_few width sales bars alike traded few =
    let at = λ (key : Key). sums_of_traded (under key bars) (All-filter (λ b. has b key) IsTraded bars traded) in
    let trades = few_trades width sales bars alike in
    record { volume = λ key. omega (arith, trades key, at key); notional = λ key. omega (arith, trades key, at key); trades = λ key. omega (arith, trades key) }

pub all_sums_fit : (width : ℕ) (lists : List (List Sale)) (tables : List (List Bar)) → AreBarsOfEach width lists tables → All IsTraded (all_bars tables)
    → length (all_sales lists) < TRADE_LIMIT → AllSumsFit (all_bars tables)
all_sums_fit width lists tables are = sums_of_few width (all_sales lists) (all_bars tables) (each_alike width lists tables are)

-- ---- two bars whose sums fit together

-- where all sums fit, each next bar can be joined
pub each_joins : (bars : List Bar) → AllSumsFit bars → (key : Key) (front rest : List Bar) (bar kept : Bar) → under key bars ≡ front ++ bar ∷ rest
    → joined_all None front ≡ Some kept → CanJoin kept bar
each_joins bars fit key front rest bar kept split before =
    let volume = within (λ z. z.volume) (λ a b. refl) in
    let notional = within (λ z. z.notional) (λ a b. refl) in
    let trades = within (λ z. z.trades) (λ a b. refl) in grind (arith, fit.volume key, fit.notional key, fit.trades key)
  where
    within : (f : Bar → ℕ) → Adds f → f kept + f bar ≤ sum_by f (under key bars)
    within f h = omega (arith, ap (sum_by f) split, sum_by-append f front (bar ∷ rest), sum_by-cons f bar rest, sum_of_joined f h front kept before)

-- the next bar's and those of a bar of its key that those before it are joined to
pub next_fits : (bars table : List Bar) (i : ℕ) (d kept : Bar) → i < length bars → IsUnionOf (take i bars) table → AllSumsFit bars → Contains table kept
    → key_cmp kept (get_or bars i d) ≡ Equal → CanJoin kept (get_or bars i d)
next_fits bars table i d kept within union fit there same =
    let bar = get_or bars i d in
    let key = key_of kept in
    let here : has bar key ≡ true = sym (same_has kept bar key same) ∙ has_itself kept in
    let before = under key (take i bars) in
    let after = under key (drop (i + 1) bars) in
    let whole = filter-append (λ b. has b key) (take (i + 1) bars) (drop (i + 1) bars) in
    let split : under key bars ≡ before ++ bar ∷ after =
    grind (arith, take-append-drop (i + 1) bars, filter_more (λ b. has b key) bars i d within, append_assoc before (bar ∷ []) after) in
    each_joins bars fit key before after bar kept split (sym (union.each key) ∙ found_itself table kept union.rise there)

-- the sums of bars in order are those of the bars
pub fits_in_order : (bars sorted : List Bar) → IsOrderOf bars sorted → AllSumsFit bars → AllSumsFit sorted
fits_in_order bars sorted order fit = record {
  volume = λ key. rw (order.each key) (fit.volume key);
  notional = λ key. rw (order.each key) (fit.notional key);
  trades = λ key. rw (order.each key) (fit.trades key);
}

-- ---- what the text of a bar asks

-- bars that are joined as those of sales whose times are below the limit start at such times
pub starts_of_sales : (width : ℕ) (sales : List Sale) (bars : List Bar) → AreJoinedAlike bars (map (bar_of_one width) sales)
    → All (λ (s : Sale). s.time < TIME_LIMIT) sales → All (λ (b : Bar). b.start < TIME_LIMIT) bars
starts_of_sales width sales bars alike times =
    starts_alike TIME_LIMIT bars _ alike (All-map (λ (b : Bar). b.start < TIME_LIMIT) (bar_of_one width) sales
    (All-weaker (λ (s : Sale). s.time < TIME_LIMIT) (λ s. interval_start width s.time < TIME_LIMIT)
    (λ s h. omega (arith, h, div-mul-le_self s.time (width * NANOSECONDS))) sales times))

-- so each bar of a table of theirs can be written
pub table_is_writable : (width : ℕ) (sales : List Sale) (table : List Bar) → AreBarsOf width sales table → All IsTraded table
    → All (λ (s : Sale). s.time < TIME_LIMIT) sales → All IsWritable table
table_is_writable width sales table are traded times =
    let starts = starts_of_sales width sales table (alike_from (ones_union width sales table are)) times in
    λ k d h. (starts k d h, (traded k d h).0, average_fits (get_or table k d) (traded k d h))
