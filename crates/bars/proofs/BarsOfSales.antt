-- Bars of one sale each: joined, they are the bars of all the sales.
use Rattle.std.proofs.Common.{◌≡◌, ℕ, ◌*◌, ◌+◌, ◌<◌, ◌≤◌, true, cond, ltb, All, List, [], ◌∷◌, ◌++◌, length, map}
use Rattle.std.proofs.Common.{filter, get_or, None, Some, IsPermutation, fold, Bor, refl, sym, ap, ◌∙◌, arith}
use Rattle.std.specs.Fn.{Mut, Called, ComputesKey}
use Rattle.std.specs.List.Sorted.{IsSorted, IsSortedByKey, IsStrictlySortedBy}
use Rattle.std.proofs.lemmas.Bool.Decides.{nat_tests}
use Rattle.std.proofs.lemmas.List.{get_or-map, length-append, length-map, map-append}
use Rattle.std.proofs.lemmas.List.Elements.{All-head, All-map, filter_passes}
use Rattle.std.proofs.lemmas.List.Sorted.{answers_always, IsPermutation-sym}
use Rattle.std.proofs.lemmas.Nat.{le-div}
use Rattle.std.proofs.Math.Nat.{div-mul-le_self, mul-le-mul_right}
use Rattle.base.specs.Least.{greatest_of, least_of}
use Rattle.base.proofs.Least.{TellsApart-permutation}
use Rattle.base.proofs.Order.{TellsApart-from_distinct}
use Rattle.row_types.specs.declared.trade.Sale.{Sale}
use Rattle.time_and_sales.specs.Lent.{AreApart, all_sales}
use Rattle.time_and_sales.proofs.SortedByPlace.{no_sale, place_of}
use Rattle.bar.specs.declared.bar.Bar.{Bar}
use Rattle.bar.specs.OneBar.{Key, has_key, bar_of, interval_start, joined_bar, key_cmp, IsTraded}
use Rattle.bars.specs.Bars.{AreBarsOf, AreBarsOfEach, IsUnionOf, all_bars, joined_all}
use Rattle.bars.specs.Steps.{AreJoinedAlike, bar_of_one, bars_of}
use Rattle.bar.proofs.OneBar.{has, made}
use Rattle.bars.proofs.Bars.{AreBarsOf-permutation, AreBarsOf-unique}
use Rattle.bars.proofs.JoinedTables.{alike_from, alike_parts, by_parts, count_of_put, filter-map, joined_traded, put_union, table_has, together, union_alike, union_of_one}

-- ---- bars of one sale each

module _ (width : ℕ) (key : Key) where
  -- a bar of some sales, and that of one sale more
  next_joined : (f l h w : Sale) (v n t : ℕ) (y : Sale)
      → joined_bar (made key f l h.price w.price v n t) (bar_of_one width y)
      ≡ made key (cond (ltb y.place f.place) y f) (cond (ltb l.place y.place) y l) (cond (ltb h.price y.price) y h).price
      (cond (ltb y.price w.price) y w).price (v + y.shares) (n + y.shares * y.price) (t + 1)
  next_joined f l h w v n t y = grind (arith, nat_tests)

  all_joined : (ys : List Sale) (f l h w : Sale) (v n t k : ℕ) → t + length ys ≡ k
      → joined_all (Some (made key f l h.price w.price v n t)) (map (bar_of_one width) ys)
      ≡ Some (made key (least_of (λ s. s.place) f ys) (greatest_of (λ s. s.place) l ys) (greatest_of (λ s. s.price) h ys).price
      (least_of (λ s. s.price) w ys).price (fold (λ a s. a + s.shares) v ys) (fold (λ a s. a + s.shares * s.price) n ys) k)
  all_joined [] f l h w v n t k e = ap (λ m. Some (made key f l h.price w.price v n m)) (omega (arith, e))
  all_joined (y ∷ ys) f l h w v n t k e =
      ap (λ b. joined_all (Some b) (map (bar_of_one width) ys)) (next_joined f l h w v n t y)
      ∙ all_joined ys (cond (ltb y.place f.place) y f) (cond (ltb l.place y.place) y l) (cond (ltb h.price y.price) y h) (cond (ltb y.price w.price) y w)
      (v + y.shares) (n + y.shares * y.price) (t + 1) k (omega (arith, e))

  ones_joined : (sales : List Sale) → All (λ s. has_key width key s ≡ true) sales → joined_all None (map (bar_of_one width) sales) ≡ bar_of key sales
  ones_joined [] has = refl
  ones_joined (x ∷ xs) has =
      let passes = All-head (λ s. has_key width key s ≡ true) x xs has in
      let all = all_joined xs x x x x (0 + x.shares) (0 + x.shares * x.price) 1 (length (x ∷ xs)) (omega arith) in
      grind (arith, nat_tests)

  pub together_ones : (sales : List Sale) → together key (map (bar_of_one width) sales) ≡ bar_of key (filter (has_key width key) sales)
  together_ones sales = grind (arith, filter-map, ones_joined, filter_passes)

-- so a table is that of the sales if their bars are joined to it
pub ones_union : (width : ℕ) (sales : List Sale) (table : List Bar) → AreBarsOf width sales table → IsUnionOf (map (bar_of_one width) sales) table
ones_union width sales table are = record { rise = are.rise; each = λ key. are.each key ∙ sym (together_ones width key sales) }

pub bars_from_ones : (width : ℕ) (sales : List Sale) (table : List Bar) → IsUnionOf (map (bar_of_one width) sales) table → AreBarsOf width sales table
bars_from_ones width sales table union = record { rise = union.rise; each = λ key. union.each key ∙ together_ones width key sales }

-- the union of two tables is that of their sales together
pub AreBarsOf-both : (width : ℕ) (xs ys : List Sale) (one other table : List Bar) → AreBarsOf width xs one → AreBarsOf width ys other
    → IsUnionOf (one ++ other) table → AreBarsOf width (xs ++ ys) table
AreBarsOf-both width xs ys one other table p q union =
    bars_from_ones width (xs ++ ys) table (rw (map-append (bar_of_one width) xs ys)
    (union_alike _ (one ++ other) table
    (alike_parts (map (bar_of_one width) xs) one (map (bar_of_one width) ys) other (λ key. sym (alike_from (ones_union width xs one p) key))
    (λ key. sym (alike_from (ones_union width ys other q) key))) union))

-- ---- the table of some sales

pub bars_of_are : (width : ℕ) (sales : List Sale) → AreBarsOf width sales (bars_of width sales)
unfolding IsStrictlySortedBy
bars_of_are width [] = record { rise = tt; each = λ key. refl }
bars_of_are width (x ∷ xs) =
    let one = bar_of_one width x ∷ [] in
    let others = bars_of_are width xs in
    AreBarsOf-both width (x ∷ []) xs one (bars_of width xs) _ (bars_from_ones width (x ∷ []) one (union_of_one (bar_of_one width x))) others
    (put_union (bar_of_one width x) (bars_of width xs) others.rise)

-- so a table of the sales is that one
pub table_is : (width : ℕ) (sales : List Sale) (table : List Bar) → AreBarsOf width sales table → table ≡ bars_of width sales
table_is width sales table are = AreBarsOf-unique width sales table (bars_of width sales) are (bars_of_are width sales)

-- the bars of one sale each, and the table of the sales, are joined alike
pub ones_alike : (width : ℕ) (sales : List Sale) → AreJoinedAlike (map (bar_of_one width) sales) (bars_of width sales)
ones_alike width sales key = sym (alike_from (ones_union width sales (bars_of width sales) (bars_of_are width sales)) key)

-- ---- the tables of many lists of sales

pub each_alike : (width : ℕ) (lists : List (List Sale)) (tables : List (List Bar)) → AreBarsOfEach width lists tables
    → AreJoinedAlike (all_bars tables) (map (bar_of_one width) (all_sales lists))
each_alike width [] [] are = λ key. refl
each_alike width [] (table ∷ tables) are = absurd are
each_alike width (sales ∷ lists) [] are = absurd are
each_alike width (sales ∷ lists) (table ∷ tables) are =
    rw (map-append (bar_of_one width) sales (all_sales lists))
    (alike_parts table (map (bar_of_one width) sales) (all_bars tables) _ (alike_from (ones_union width sales table are.0))
    (each_alike width lists tables are.1))

-- the union of the tables of some lists of sales is the table of all these sales
pub AreBarsOf-union : (width : ℕ) (lists : List (List Sale)) (tables : List (List Bar)) (table : List Bar) → AreBarsOfEach width lists tables
    → IsUnionOf (all_bars tables) table → AreBarsOf width (all_sales lists) table
AreBarsOf-union width lists tables table are union =
    bars_from_ones width (all_sales lists) table
    (union_alike _ (all_bars tables) table (λ key. sym (each_alike width lists tables are key)) union)

-- and the table of all these sales is the union of their tables
pub union_of_bars : (width : ℕ) (lists : List (List Sale)) (tables : List (List Bar)) (table : List Bar) → AreBarsOfEach width lists tables
    → AreBarsOf width (all_sales lists) table → IsUnionOf (all_bars tables) table
union_of_bars width lists tables table are of =
    union_alike (all_bars tables) _ table (each_alike width lists tables are) (ones_union width (all_sales lists) table of)

-- ---- there are no more bars than sales

count_of_bars : (width : ℕ) (sales : List Sale) → length (bars_of width sales) ≤ length sales
count_of_bars width [] = omega arith
count_of_bars width (x ∷ xs) = omega (arith, count_of_put (bar_of_one width x) (bars_of width xs), count_of_bars width xs)

pub count_of_each : (width : ℕ) (lists : List (List Sale)) (tables : List (List Bar)) → AreBarsOfEach width lists tables
    → length (all_bars tables) ≤ length (all_sales lists)
count_of_each width [] [] are = omega arith
count_of_each width [] (table ∷ tables) are = absurd are
count_of_each width (sales ∷ lists) [] are = absurd are
count_of_each width (sales ∷ lists) (table ∷ tables) are =
    omega (
      arith,
      ap length (table_is width sales table are.0),
      count_of_bars width sales,
      count_of_each width lists tables are.1,
      length-append table (all_bars tables),
      length-append sales (all_sales lists),
    )

-- ---- each bar of sales is traded

pub bars_traded : (width : ℕ) (sales : List Sale) (table : List Bar) → All (λ sale. IsTraded (bar_of_one width sale)) sales → AreBarsOf width sales table
    → All IsTraded table
bars_traded width sales table traded are =
    table_has IsTraded joined_traded (map (bar_of_one width) sales) table (ones_union width sales table are) (All-map IsTraded (bar_of_one width) sales traded)

-- ---- sales by locate and time

start_rises : (width a b : ℕ) → 0 < width → a ≤ b → interval_start width a ≤ interval_start width b
start_rises width a b some h = grind (arith, div-mul-le_self, mul-le-mul_right, le-div)

pub ones_rise : {F : Type 0} {g : Mut F (Bor Sale × Unit {0}) (ℕ × ℕ)} {f : F} (width : ℕ) (sales : List Sale) → 0 < width
    → ((key : Sale → ℕ × ℕ) → ComputesKey g key f → IsSortedByKey key by_parts sales)
    → ((f : F) (a : Bor Sale × Unit {0}) (r : ℕ × ℕ) (f' : F) → Called g f a r f' → r ≡ (a.0.now.locate, a.0.now.time))
    → IsSorted key_cmp (map (bar_of_one width) sales)
ones_rise {g = g} {f = f} width sales some up h k d low within =
    let n = length-map sales (bar_of_one width) in
    let turn = up (λ s. (s.locate, s.time)) (answers_always g (λ a r. r ≡ (a.0.now.locate, a.0.now.time)) f h) k no_sale low (omega (arith, n)) in
    let times = start_rises width (get_or sales k no_sale).time (get_or sales (k + 1) no_sale).time some in
    rw (get_or-map (bar_of_one width) sales k no_sale d (omega (arith, n)), get_or-map (bar_of_one width) sales (k + 1) no_sale d (omega (arith, n)))
    (grind (arith, nat_tests))

-- the table of sales in another order is theirs
pub AreBarsOf-sorted : (width : ℕ) (sales sorted : List Sale) (table : List Bar) → IsPermutation sales sorted → AreApart sales
    → AreBarsOf width sorted table → AreBarsOf width sales table
AreBarsOf-sorted width sales sorted table perm apart =
    AreBarsOf-permutation width sorted sales table (TellsApart-permutation place_of sales sorted perm (TellsApart-from_distinct place_of sales apart))
    (IsPermutation-sym sales sorted perm)
