-- Bars joined under each key: of lists one after another, and of tables, which are what lists are joined to.
use Rattle.std.proofs.Common.{◌≡◌, ℕ, ◌+◌, ◌<◌, ◌≤◌, Bool, true, ◌&&◌, cond, not, All, List, [], ◌∷◌, ◌++◌, length, map, filter, take, eqb, get_or, Option}
use Rattle.std.proofs.Common.{Some, None, Contains, IsPermutation, Ordering, Less, Equal, Greater, Bor, refl, sym, ap, ap₂, ◌∙◌, subst, arith}
use Rattle.std.proofs.Common.{IfSome}
use Rattle.std.specs.List.{AllByRecursion, sum_by}
use Rattle.std.specs.List.Sorted.{IsSorted, IsStrictlySortedBy, IsStableByKey, IsSortedByKey}
use Rattle.std.specs.Ordering.{is_eq, is_lt, nat_cmp, ordering_reverse, ordering_then}
use Rattle.std.specs.Fn.{Mut, Called, ComputesKey}
use Rattle.std.proofs.lemmas.Bool.{and_parts, eqb-true}
use Rattle.std.proofs.lemmas.Bool.Decides.{nat_tests}
use Rattle.std.proofs.lemmas.List.{get_or-map, length-map, nil_from_length, take_more}
use Rattle.std.proofs.lemmas.List.Sums.{sum_by-cons}
use Rattle.std.proofs.lemmas.List.Elements.{All-contains_itself, All-filter, All-head, All-tail, All-weaker, filter_agree, filter_passes}
use Rattle.std.proofs.lemmas.List.Sorted.{answers_always, IsPermutation-map, length_permutation}
use Rattle.std.proofs.lemmas.Map.Keys.{sorted_head, sorted_tail}
use Rattle.base.proofs.Lists.{IsPermutation-filter}
use Rattle.bar.specs.declared.bar.Bar.{Bar}
use Rattle.bar.specs.OneBar.{Key, key_cmp, joined_bar, joined, IsTraded}
use Rattle.bars.specs.Bars.{found, joined_all, under, IsByKey, IsUnionOf}
use Rattle.bars.specs.Steps.{AreJoinedAlike, put, united}
use Rattle.bar.proofs.OneBar.{has, higher_misses, joined_none, joined_three, key_of, key_total, same_has}
use Rattle.bars.proofs.Bars.{found_itself, tables_agree}

-- ---- bars joined, one after another

-- what there was before is joined to all the others
joined_before : (before : Option Bar) (bars : List Bar) → joined_all before bars ≡ joined before (joined_all None bars)
joined_before before [] = sym (joined_none before)
joined_before before (bar ∷ bars) = grind (arith, joined_before (joined before (Some bar)) bars, joined_before (Some bar) bars, joined_three)

-- ---- bars joined under a key

abbrev pub together : Key → List Bar → Option Bar
together key bars = joined_all None (under key bars)

-- a bar, if it has the key
abbrev pub alone : Key → Bar → Option Bar
alone key bar = cond (has bar key) (Some bar) None

pub together_cons : (key : Key) (bar : Bar) (bars : List Bar) → together key (bar ∷ bars) ≡ joined (alone key bar) (together key bars)
together_cons key bar bars = grind (arith, joined_before)

pub together-append : (key : Key) (xs ys : List Bar) → together key (xs ++ ys) ≡ joined (together key xs) (together key ys)
together-append key [] ys = refl
together-append key (x ∷ xs) ys = grind (arith, together_cons, joined_three, together-append key xs ys)

pub alike_parts : (one other more others : List Bar) → AreJoinedAlike one other → AreJoinedAlike more others → AreJoinedAlike (one ++ more) (other ++ others)
alike_parts one other more others h g key = together-append key one more ∙ ap₂ joined (h key) (g key) ∙ sym (together-append key other others)

-- two bars of one key, and the bar of both
pub pair_alike : (a b : Bar) → key_cmp a b ≡ Equal → AreJoinedAlike (joined_bar a b ∷ []) (a ∷ b ∷ [])
pair_alike a b e key = grind (arith, same_has)

-- above a bar there is none of its key
pub none_above : (bar : Bar) (bars : List Bar) (key : Key) → AllByRecursion (λ z. key_cmp bar z ≡ Less) bars → has bar key ≡ true → under key bars ≡ []
none_above bar [] key above t = refl
none_above bar (z ∷ bars) key above t = rw (higher_misses bar z key above.0 t) (none_above bar bars key above.1 t)

-- a table has one bar of a key, or none
pub together_found : (key : Key) (table : List Bar) → IsByKey table → together key table ≡ found table key
together_found key [] up = refl
together_found key (bar ∷ table) up =
    let more = together_found key table (sorted_tail key_cmp bar table up) in
    let none = none_above bar table key (sorted_head key_cmp bar table up) in
    grind (arith, together_cons, joined_none)

-- ---- the table that bars are joined to

pub union_from : (bars table : List Bar) → IsByKey table → AreJoinedAlike table bars → IsUnionOf bars table
union_from bars table up alike = record { rise = up; each = λ key. sym (together_found key table up) ∙ alike key }

pub alike_from : {bars table : List Bar} → IsUnionOf bars table → AreJoinedAlike table bars
alike_from {bars} {table} union key = together_found key table union.rise ∙ union.each key

-- what is joined alike has one union
pub union_alike : (one other table : List Bar) → AreJoinedAlike one other → IsUnionOf other table → IsUnionOf one table
union_alike one other table alike union = record { rise = union.rise; each = λ key. union.each key ∙ sym (alike key) }

pub union_itself : (table : List Bar) → IsByKey table → IsUnionOf table table
union_itself table up = union_from table table up (λ key. refl)

pub union_of_none : IsUnionOf [] []
unfolding IsStrictlySortedBy
union_of_none = union_itself [] tt

pub union_of_one : (bar : Bar) → IsUnionOf (bar ∷ []) (bar ∷ [])
unfolding IsStrictlySortedBy
union_of_one bar = union_itself (bar ∷ []) (tt, tt)

-- bars have one union
pub one_union : (bars one other : List Bar) → IsUnionOf bars one → IsUnionOf bars other → one ≡ other
one_union bars one other here there = tables_agree one other here.rise there.rise (λ key. here.each key ∙ sym (there.each key))

-- one bar more
pub union_more : (bars : List Bar) (i : ℕ) (d : Bar) (table new : List Bar) → i < length bars → IsUnionOf (take i bars) table
    → IsUnionOf (table ++ get_or bars i d ∷ []) new → IsUnionOf (take (i + 1) bars) new
union_more bars i d table new within union made =
    let one = get_or bars i d ∷ [] in
    rw (take_more bars i d within)
    (union_alike _ (table ++ one) new (alike_parts (take i bars) table one one (λ key. sym (alike_from union key)) (λ key. refl)) made)

-- what holds of bars, and of two joined where it holds of both, holds of the table that they are joined to
module _ (P : Bar → Type 0) (closed : (a b : Bar) → P a → P b → P (joined_bar a b)) where
  pub joined_has : (before : Option Bar) (bars : List Bar) → IfSome before P → All P bars → IfSome (joined_all before bars) P
  joined_has before [] one all = one
  joined_has before (x ∷ xs) one all =
      joined_has (joined before (Some x)) xs (let here = All-head P x xs all in grind (arith, closed)) (All-tail P x xs all)

  pub table_has : (bars table : List Bar) → IsUnionOf bars table → All P bars → All P table
  table_has bars table union all =
      All-weaker (Contains table) P
      (λ bar c. subst (λ o. IfSome o P) (sym (union.each (key_of bar)) ∙ found_itself table bar union.rise c)
      (joined_has None (under (key_of bar) bars) tt (All-filter (λ b. has b (key_of bar)) P bars all)))
      table (All-contains_itself table)

pub joined_traded : (a b : Bar) → IsTraded a → IsTraded b → IsTraded (joined_bar a b)
joined_traded a b p q = (omega (arith, p.0, q.0), omega (arith, p.1, q.1), omega (arith, p.2, q.2))

-- ---- sums

-- the number of two bars joined is the sum of theirs
abbrev pub Adds : (Bar → ℕ) → Type 0
Adds f = (a b : Bar) → f (joined_bar a b) ≡ f a + f b

unfoldable pub of : (Bar → ℕ) → Option Bar → ℕ
of f None = 0
of f (Some bar) = f bar

sum_joined : (f : Bar → ℕ) → Adds f → (before : Option Bar) (xs : List Bar) → of f (joined_all before xs) ≡ of f before + sum_by f xs
unfolding of
sum_joined f h before [] = omega arith
sum_joined f h before (x ∷ xs) = grind (arith, sum_joined f h (joined before (Some x)) xs, sum_by-cons f x xs, h)

pub sum_of_joined : (f : Bar → ℕ) → Adds f → (bars : List Bar) (kept : Bar) → joined_all None bars ≡ Some kept → f kept ≡ sum_by f bars
unfolding of
sum_of_joined f h bars kept e = omega (arith, ap (of f) e, sum_joined f h None bars)

pub sum_together : (f : Bar → ℕ) → Adds f → (key : Key) (bars : List Bar) → of f (together key bars) ≡ sum_by f (under key bars)
unfolding of
sum_together f h key bars = omega (arith, sum_joined f h None (under key bars))

-- ---- sorted bars of one key stand as before

pub filter-map : {X Y : Type 0} (f : X → Y) (p : Y → Bool) (xs : List X) → filter p (map f xs) ≡ map f (filter (λ x. p (f x)) xs)
filter-map f p [] = refl
filter-map f p (x ∷ xs) = let more = filter-map f p xs in grind (arith, nat_tests)

abbrev pub by_parts : ℕ × ℕ → ℕ × ℕ → Ordering
by_parts a b = ordering_then (nat_cmp a.0 b.0) (nat_cmp a.1 b.1)

ties_have : (l s m t : ℕ)
    → (not (is_lt (by_parts (l, s) (m, t))) && not (is_lt (by_parts (m, t) (l, s)))) ≡ (eqb m l && eqb t s)
ties_have l s m t = grind (arith, nat_tests)

-- bars in the order of their keys, those of one key in the order that they had
pub record IsOrderOf (bars sorted : List Bar) : Type 0 where
  pub rise : IsSorted key_cmp sorted
  pub each : (key : Key) → under key sorted ≡ under key bars
  pub permutation : IsPermutation bars sorted

-- what passes a test, once in order, stands as before, if it does wherever something passes
passed_alike : {X : Type 0} (p : X → Bool) (xs sorted : List X) → IsPermutation xs sorted
    → ((x : X) → p x ≡ true → filter p sorted ≡ filter p xs) → filter p sorted ≡ filter p xs
passed_alike {X} p xs sorted perm same = elim (filter p xs) as (λ l. filter p xs ≡ l → filter p sorted ≡ filter p xs) [
  | [] ↦ λ e. nil_from_length (filter p sorted)
      (omega (arith, length_permutation (filter p xs) (filter p sorted) (IsPermutation-filter p xs sorted perm), ap length e)) ∙ sym e
  | x ∷ rest ↦ λ e. same x (All-head (λ x. p x ≡ true) x rest (subst (All (λ x. p x ≡ true)) e (filter_passes p xs)))
] refl

key_from : (bar : Bar) (key : Key) → has bar key ≡ true → key_of bar ≡ key
key_from bar key h =
    let parts = and_parts _ _ h in
    ap₂ (λ l s. record { locate = l; start = s }) (eqb-true bar.locate key.locate parts.0) (eqb-true bar.start key.start parts.1)

-- `some` is any of them
module _ {X : Type 0} (now : X → Bar) (some : X) where
  -- what a stable sort by locate and start leaves
  pub ordered : {F : Type 0} {g : Mut F (Bor X × Unit {0}) (ℕ × ℕ)} {f : F} (xs sorted : List X) → IsPermutation xs sorted
      → ((key : X → ℕ × ℕ) → ComputesKey g key f → IsSortedByKey key by_parts sorted)
      → ((key : X → ℕ × ℕ) → ComputesKey g key f → IsStableByKey key by_parts xs sorted)
      → ((f : F) (a : Bor X × Unit {0}) (r : ℕ × ℕ) (f' : F) → Called g f a r f' → r ≡ ((now a.0.now).locate, (now a.0.now).start))
      → IsOrderOf (map now xs) (map now sorted)
  ordered {g = g} {f = f} xs sorted perm up stable h =
      let by : X → ℕ × ℕ = λ x. ((now x).locate, (now x).start) in
      let computes = answers_always g (λ a r. r ≡ by a.0.now) f h in
      let n = length-map sorted now in
      record {
        rise = λ k d low within.
            rw (get_or-map now sorted k some d (omega (arith, n)), get_or-map now sorted (k + 1) some d (omega (arith, n)))
            (up by computes k some low (omega (arith, n)));
        each = λ key.
            let of_one = λ (one : X) (is : has (now one) key ≡ true).
            let same = λ (x : X). ties_have (now one).locate (now one).start (now x).locate (now x).start
            ∙ ap (has (now x)) (key_from (now one) key is) in
            sym (filter_agree _ (λ x. has (now x) key) same sorted) ∙ stable by computes one
            ∙ filter_agree _ (λ x. has (now x) key) same xs in
            filter-map now (λ b. has b key) sorted
            ∙ ap (map now) (passed_alike (λ x. has (now x) key) xs sorted perm of_one)
            ∙ sym (filter-map now (λ b. has b key) xs);
        permutation = IsPermutation-map now xs sorted perm;
      }

-- ---- a bar put into a table, and two tables made one

abbrev Below : Bar → List Bar → Type 0
Below bar table = AllByRecursion (λ z. key_cmp bar z ≡ Less) table

below_all : (x y : Bar) → ((z : Bar) → key_cmp y z ≡ Less → key_cmp x z ≡ Less) → (t : List Bar) → Below y t → Below x t
below_all x y f [] p = tt
below_all x y f (z ∷ t) p = (f z p.0, below_all x y f t p.1)

record Puts (bar : Bar) (table made : List Bar) : Type 0 where
  rise : IsByKey made
  above : (x : Bar) → key_cmp x bar ≡ Less → Below x table → Below x made
  alike : AreJoinedAlike made (bar ∷ table)

puts : (a : Bar) (table : List Bar) → IsByKey table → Puts a table (put a table)
unfolding IsStrictlySortedBy
puts a [] up = record { rise = (tt, tt); above = λ x p q. (p, tt); alike = λ key. refl }
puts a (b ∷ table) up =
    elim (key_cmp a b) as (λ o. key_cmp a b ≡ o
    → Puts a (b ∷ table) (cond (is_lt o) (a ∷ b ∷ table) (cond (is_eq o) (joined_bar a b ∷ table) (b ∷ put a table)))) [
      | Less ↦ λ e. record {
        rise = ((e, below_all a b (λ z h. key_total.trans a b z e h) table up.0), up);
        above = λ x p q. (p, q);
        alike = λ key. refl;
      }
      | Equal ↦ λ e. record {
        rise = (below_all a b (λ z h. key_total.congr a b z e ∙ h) table up.0, up.1);
        above = λ x p q. (p, q.1);
        alike = alike_parts (joined_bar a b ∷ []) (a ∷ b ∷ []) table table (pair_alike a b e) (λ key. refl);
      }
      | Greater ↦ λ e.
          let m = puts a table up.1 in
          let turned : key_cmp b a ≡ Less = key_total.antisymm b a ∙ ap ordering_reverse e in
          record {
            rise = (m.above b turned up.0, m.rise);
            above = λ x p q. (q.0, m.above x p q.1);
            alike = λ key. grind (arith, together_cons, joined_none, m.alike key, higher_misses b a key turned);
          }
    ] refl

pub put_union : (bar : Bar) (table : List Bar) → IsByKey table → IsUnionOf (bar ∷ table) (put bar table)
put_union bar table up = let m = puts bar table up in union_from (bar ∷ table) (put bar table) m.rise m.alike

-- a list of bars has a union, which has no more bars
pub united_is : (bars : List Bar) → IsUnionOf bars (united bars)
united_is [] = union_of_none
united_is (bar ∷ bars) =
    let others = united_is bars in
    union_alike (bar ∷ bars) (bar ∷ united bars) (put bar (united bars))
    (alike_parts (bar ∷ []) (bar ∷ []) bars (united bars) (λ key. refl) (λ key. sym (alike_from others key))) (put_union bar (united bars) others.rise)

pub count_of_put : (bar : Bar) (table : List Bar) → length (put bar table) ≤ length table + 1
count_of_put bar [] = omega arith
count_of_put bar (other ∷ table) = let more = count_of_put bar table in grind (arith, nat_tests)

pub count_of_united : (bars : List Bar) → length (united bars) ≤ length bars
count_of_united [] = omega arith
count_of_united (bar ∷ bars) = omega (arith, count_of_put bar (united bars), count_of_united bars)
