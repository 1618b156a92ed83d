-- The bar of sales in any order, bars by key, bars joined, and a bar's average.
use Rattle.std.proofs.Common.{◌≡◌, ℕ, ◌-◌, ◌*◌, ◌/◌, ◌^◌, ◌<◌, ◌≤◌, Bool, true, false, ◌&&◌, eqb, List, [], ◌∷◌, Option, None, Some}
use Rattle.std.proofs.Common.{IsPermutation, Less, Equal, refl, sym, arith}
use Rattle.std.specs.Cmp.{IsTotalOrder}
use Rattle.std.proofs.lemmas.Bool.{eq-eqb, and_from}
use Rattle.std.proofs.lemmas.Bool.Decides.{nat_tests}
use Rattle.std.proofs.lemmas.Cmp.{nat_cmp_total, on_total, then_total}
use Rattle.std.proofs.lemmas.List.Sorted.{length_permutation, sum_by-IsPermutation}
use Rattle.std.proofs.Math.Nat.{div-le_of_le-mul}
use Rattle.base.proofs.Least.{least_of-permutation, greatest_of-permutation, least_of_apart, greatest_of_apart}
use Rattle.base.proofs.Order.{TellsApart}
use Rattle.row_types.specs.declared.trade.Sale.{Sale}
use Rattle.bar.specs.declared.bar.Bar.{Bar}
use Rattle.bar.specs.OneBar.{IsTraded, Key, bar_of, joined, joined_bar, key_cmp}

-- a bar of a key, by its first and its last sale, the highest and the lowest price, the sums and the count
abbrev pub made : Key → Sale → Sale → ℕ → ℕ → ℕ → ℕ → ℕ → Bar
made key first last high low volume notional trades = record {
  locate = key.locate;
  start = key.start;
  first_place = first.place;
  first = first.price;
  high = high;
  low = low;
  last_place = last.place;
  last = last.price;
  volume = volume;
  notional = notional;
  trades = trades;
}

-- the bar of a list of sales does not depend on their order
pub bar_of-permutation : (key : Key) (xs ys : List Sale) → TellsApart (λ s. s.place) xs → IsPermutation xs ys → bar_of key xs ≡ bar_of key ys
bar_of-permutation key [] [] apart h = refl
bar_of-permutation key [] (y ∷ ys) apart h = absurd (omega (arith, length_permutation [] (y ∷ ys) h))
bar_of-permutation key (x ∷ xs) [] apart h = absurd (omega (arith, length_permutation (x ∷ xs) [] h))
bar_of-permutation key (x ∷ xs) (y ∷ ys) apart h =
    let place : Sale → ℕ = λ s. s.place in
    let price : Sale → ℕ = λ s. s.price in
    let first = least_of_apart place x xs y ys apart h in
    let last = greatest_of_apart place x xs y ys apart h in
    let high = greatest_of-permutation price x xs y ys h in
    let low = least_of-permutation price x xs y ys h in
    let volume = sym (sum_by-IsPermutation (λ (s : Sale). s.shares) _ _ h) in
    let notional = sym (sum_by-IsPermutation (λ (s : Sale). s.shares * s.price) _ _ h) in
    let trades = sym (length_permutation _ _ h) in
    λ i. Some (made key (first i) (last i) (high i) (low i) (volume i) (notional i) (trades i))

-- ---- keys

abbrev pub has : Bar → Key → Bool
has bar key = eqb bar.locate key.locate && eqb bar.start key.start

abbrev pub key_of : Bar → Key
key_of bar = record { locate = bar.locate; start = bar.start }

pub has_itself : (bar : Bar) → has bar (key_of bar) ≡ true
has_itself bar = and_from _ _ (eq-eqb bar.locate bar.locate refl) (eq-eqb bar.start bar.start refl)

pub key_total : IsTotalOrder key_cmp
key_total = then_total (on_total (λ (b : Bar). b.locate) nat_cmp_total) (on_total (λ (b : Bar). b.start) nat_cmp_total)

pub same_has : (a b : Bar) (key : Key) → key_cmp a b ≡ Equal → has a key ≡ has b key
same_has a b key h = grind (arith, nat_tests)

-- a bar above another doesn't have its key
pub higher_misses : (a b : Bar) (key : Key) → key_cmp a b ≡ Less → has a key ≡ true → has b key ≡ false
higher_misses a b key h t = grind (arith, nat_tests)

-- ---- two bars joined

joined_bars : (a b c : Bar) → joined_bar (joined_bar a b) c ≡ joined_bar a (joined_bar b c)
joined_bars a b c = grind (arith, nat_tests)

pub joined_none : (before : Option Bar) → joined before None ≡ before
joined_none before = grind arith

pub joined_three : (a b c : Option Bar) → joined (joined a b) c ≡ joined a (joined b c)
joined_three a b c = grind (arith, joined_bars)

-- ---- the average

pub average_fits : (bar : Bar) → IsTraded bar → bar.notional / bar.volume < 2 ^ 32
average_fits bar has = let quotient : bar.notional / bar.volume ≤ 2 ^ 32 - 1 = div-le_of_le-mul bar.volume has.1 in omega (arith, quotient)
