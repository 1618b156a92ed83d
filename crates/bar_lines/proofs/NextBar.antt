-- The bar that comes after another: with one bar more, among bars that are joined alike, and in a table.
use Rattle.std.proofs.Common.{Bor, flat_map, ◌≡◌, ◌+◌, ◌<◌, ◌≤◌, ℕ, IfSome, length, map, take, drop, get_or, Bool, true, false, ◌&&◌, All, List, [], ◌∷◌, ◌++◌, Option, Some, None, filter, Contains, Less, Equal}
use Rattle.std.proofs.Common.{refl, sym, ap, ◌∙◌, arith, inl, inr, ⊎_elim, subst, is_eq, is_lt, append-nil, append_assoc, sum_by}
use Rattle.std.specs.List.{AllByRecursion}
use Rattle.std.proofs.lemmas.Bool.{and_parts, cases_Bool}
use Rattle.std.proofs.lemmas.Bool.Decides.{nat_tests}
use Rattle.std.proofs.lemmas.List.Elements.{All-filter, All-contains, All-contains_itself, All-from_recursion, All-head, All-tail, All-weaker, filter-append}
use Rattle.std.proofs.lemmas.List.{map-append, take-append-drop, take_more}
use Rattle.std.proofs.lemmas.List.Concat.{flat_map-append}
use Rattle.std.proofs.lemmas.List.Folds.{flat_map-map}
use Rattle.std.proofs.lemmas.List.Sums.{sum_by-append}
use Rattle.std.proofs.lemmas.Map.Keys.{sorted_head, sorted_tail}
use Rattle.base.proofs.Lists.{flat_map_next}
use Rattle.base.proofs.Order.{Contains_cons}
use Rattle.time_and_sales.specs.Lent.{lent}
use Rattle.time_and_sales.specs.Ranges.{is_in_first}
use Rattle.time_and_sales.proofs.InRanges.{all_pass, none_pass}
use Rattle.base.specs.declared.limits.TheConstants.{TIME_LIMIT}
use Rattle.bar.specs.declared.bar.Bar.{Bar}
use Rattle.bar.specs.OneBar.{CanJoin, IsTraded, Key, joined, joined_bar, key_cmp}
use Rattle.bars.specs.Bars.{AllSumsFit, all_bars, IsByKey, IsUnionOf, under}
use Rattle.bar_lines.specs.Told.{IsTold}
use Rattle.bar_lines.specs.NextBar.{IsNext, is_later, joined_of, lesser, next_of_both}
use Rattle.bars.specs.Steps.{AreJoinedAlike}
use Rattle.bars.specs.Texts.{IsWritable}
use Rattle.bar.proofs.OneBar.{average_fits, has, has_itself, joined_none, key_of, same_has}
use Rattle.bars.proofs.Bars.{found_in, found_itself}
use Rattle.bar_lines.proofs.BarsInRanges.{IsUnionOf-within, first_as_locate, locate_of, sums_within}
use Rattle.bars.proofs.JoinedTables.{Adds, alike_from, alike_parts, alone, joined_traded, table_has, of, sum_together, together-append, together_cons, together_found}
use Rattle.bars.proofs.SumsAreBounded.{each_joins}

-- ---- one bar more

-- what there is under the key of a bar, once one more bar is there
more_of : (other bar : Bar) (bars : List Bar) → joined_of other (bars ++ bar ∷ []) ≡ joined (joined_of other bars) (alone (key_of other) bar)
more_of other bar bars =
    together-append (key_of other) bars (bar ∷ [])
    ∙ ap (joined (joined_of other bars)) (together_cons (key_of other) bar [] ∙ joined_none (alone (key_of other) bar))

-- which has another key
stays : (other bar : Bar) (bars : List Bar) → is_eq (key_cmp other bar) ≡ false → joined_of other (bars ++ bar ∷ []) ≡ joined_of other bars
stays other bar bars differs =
    let none : alone (key_of other) bar ≡ None = grind (arith, nat_tests) in
    more_of other bar bars ∙ ap (joined (joined_of other bars)) none ∙ joined_none (joined_of other bars)

-- which has the same key
gains : (other bar : Bar) (bars : List Bar) → is_eq (key_cmp other bar) ≡ true → joined_of other (bars ++ bar ∷ []) ≡ joined (joined_of other bars) (Some bar)
gains other bar bars same =
    let one : alone (key_of other) bar ≡ Some bar = grind (arith, nat_tests) in
    more_of other bar bars ∙ ap (joined (joined_of other bars)) one

-- ---- keys

same_key : (bar : Bar) → is_eq (key_cmp bar bar) ≡ true
same_key bar = grind (arith, nat_tests)

later_differs : (last : Option Bar) (other bar : Bar) → is_later last other ≡ true → is_later last bar ≡ false → is_eq (key_cmp other bar) ≡ false
later_differs None other bar p q = absurd (cc)
later_differs (Some last) other bar p q = grind (arith, nat_tests)

less_differs : (other bar : Bar) → is_lt (key_cmp other bar) ≡ true → is_eq (key_cmp other bar) ≡ false
less_differs other bar p = grind (arith, nat_tests)

less_through : (a b c : Bar) → is_lt (key_cmp a b) ≡ true → is_lt (key_cmp b c) ≡ true → is_lt (key_cmp a c) ≡ true
less_through a b c p q = grind (arith, nat_tests)

greater : (a b : Bar) → is_lt (key_cmp a b) ≡ false → is_eq (key_cmp a b) ≡ false → is_lt (key_cmp b a) ≡ true
greater a b p q = grind (arith, nat_tests)

same_less : (a b c : Bar) → is_lt (key_cmp a b) ≡ true → is_eq (key_cmp b c) ≡ true → is_lt (key_cmp a c) ≡ true
same_less a b c p q = grind (arith, nat_tests)

later_through : (last : Option Bar) (a b : Bar) → is_later last a ≡ true → key_cmp a b ≡ Less → is_later last b ≡ true
later_through None a b p less = refl
later_through (Some last) a b p less = less_through last a b p (ap is_lt less)

joined_later : (last : Option Bar) (a b : Bar) → is_later last a ≡ true → is_later last (joined_bar a b) ≡ true
joined_later None a b p = refl
joined_later (Some last) a b p = p

-- ---- the next bar once one more is there

-- it isn't later than the last one
passed_over : (last best : Option Bar) (bars : List Bar) (bar : Bar) → is_later last bar ≡ false → IsNext last bars best → IsNext last (bars ++ bar ∷ []) best
passed_over last None bars bar early next = λ other later. stays other bar bars (later_differs last other bar later early) ∙ next other later
passed_over last (Some best) bars bar early next = (
  next.0,
  stays best bar bars (later_differs last best bar next.0 early) ∙ next.1,
  λ other later less. stays other bar bars (later_differs last other bar later early) ∙ next.2 other later less,
)

-- there is none yet, or only greater ones
put_first : (last : Option Bar) (bars : List Bar) (bar : Bar) → is_later last bar ≡ true
    → joined_of bar bars ≡ None
    → ((other : Bar) → is_later last other ≡ true → is_lt (key_cmp other bar) ≡ true → joined_of other bars ≡ None)
    → IsNext last (bars ++ bar ∷ []) (Some bar)
put_first last bars bar late here below = (
  late,
  gains bar bar bars (same_key bar) ∙ ap (λ o. joined o (Some bar)) here,
  λ other later less. stays other bar bars (less_differs other bar less) ∙ below other later less,
)

taken_in : (last best : Option Bar) (bars : List Bar) (bar : Bar) → is_later last bar ≡ true → IsNext last bars best → IsNext last (bars ++ bar ∷ []) (Some (lesser best bar))
taken_in last None bars bar late next = put_first last bars bar late (next bar late) (λ other later less. next other later)
taken_in last (Some best) bars bar late next = elim (cases_Bool (is_lt (key_cmp best bar))) [
  | inl less ↦ rw less (
    next.0,
    stays best bar bars (less_differs best bar less) ∙ next.1,
    λ other later below. stays other bar bars (less_differs other bar (less_through other best bar below less)) ∙ next.2 other later below,
  )
  | inr high ↦ elim (cases_Bool (is_eq (key_cmp best bar))) [
    | inl same ↦ rw (high, same) (
      joined_later last best bar next.0,
      gains best bar bars same ∙ ap (λ o. joined o (Some bar)) next.1,
      λ other later below. stays other bar bars (less_differs other bar (same_less other best bar below same)) ∙ next.2 other later below,
    )
    | inr differs ↦ rw (high, differs) (put_first last bars bar late
        (next.2 bar late (greater best bar high differs))
        (λ other later below. next.2 other later (less_through other bar best below (greater best bar high differs))))
  ]
]

pub next_more : (last best : Option Bar) (bars : List Bar) (bar : Bar) → IsNext last bars best → IsNext last (bars ++ bar ∷ []) (next_of_both last best bar)
next_more last best bars bar next = elim (cases_Bool (is_later last bar)) [
  | inl late ↦ rw late (taken_in last best bars bar late next)
  | inr early ↦ rw early (passed_over last best bars bar early next)
]

-- ---- the sums of the next bar and one more fit

pub next_can_join : (last : Option Bar) (bars rest : List Bar) (bar kept : Bar) → IsNext last bars (Some kept) → AllSumsFit (bars ++ bar ∷ rest)
    → key_cmp kept bar ≡ Equal → CanJoin kept bar
next_can_join last bars rest bar kept next fit same =
    let key = key_of kept in
    let here : has bar key ≡ true = sym (same_has kept bar key same) ∙ has_itself kept in
    let split : under key (bars ++ bar ∷ rest) ≡ under key bars ++ bar ∷ under key rest =
    filter-append (λ b. has b key) bars (bar ∷ rest) ∙ rw here refl in
    each_joins (bars ++ bar ∷ rest) fit key (under key bars) (under key rest) bar kept split next.1

pub next_fits_both : (last best : Option Bar) (bars rest : List Bar) (bar : Bar) → IsNext last bars best → AllSumsFit (bars ++ bar ∷ rest)
    → IfSome best (λ kept. key_cmp kept bar ≡ Equal → CanJoin kept bar)
next_fits_both last None bars rest bar next fit = tt
next_fits_both last (Some kept) bars rest bar next fit = λ same. next_can_join last bars rest bar kept next fit same

-- the bars of items, as a loop comes to one of them
pub items_at : {X : Type 0} (f : X → Bar) (before : List Bar) (xs : List X) (i : ℕ) (x : X) → i < length xs → x ≡ get_or xs i x
    → before ++ map f xs ≡ (before ++ map f (take i xs)) ++ f x ∷ map f (drop (i + 1) xs)
items_at f before xs i x within at =
    let rest = drop (i + 1) xs in
    let here : xs ≡ take i xs ++ x ∷ rest =
    sym (take-append-drop (i + 1) xs) ∙ ap (λ l. l ++ rest) (take_more xs i x within ∙ ap (λ y. take i xs ++ y ∷ []) (sym at))
    ∙ append_assoc (take i xs) (x ∷ []) rest in
    ap (λ l. before ++ map f l) here ∙ ap (λ l. before ++ l) (map-append f (take i xs) (x ∷ rest))
    ∙ sym (append_assoc before (map f (take i xs)) (f x ∷ map f rest))

-- ---- bars that are joined alike

pub next_alike : (last best : Option Bar) (one other : List Bar) → AreJoinedAlike one other → IsNext last one best → IsNext last other best
next_alike last None one other alike next = λ bar late. sym (alike (key_of bar)) ∙ next bar late
next_alike last (Some best) one other alike next = (
  next.0,
  sym (alike (key_of best)) ∙ next.1,
  λ bar late less. sym (alike (key_of bar)) ∙ next.2 bar late less,
)

pub sums_alike : (one other : List Bar) → AreJoinedAlike one other → AllSumsFit other → AllSumsFit one
sums_alike one other alike fit = record {
  volume = λ key. omega (arith, same (λ b. b.volume) (λ a b. refl) key, fit.volume key);
  notional = λ key. omega (arith, same (λ b. b.notional) (λ a b. refl) key, fit.notional key);
  trades = λ key. omega (arith, same (λ b. b.trades) (λ a b. refl) key, fit.trades key);
}
  where
    same : (f : Bar → ℕ) → Adds f → (key : Key) → sum_by f (under key one) ≡ sum_by f (under key other)
    same f h key = sym (sum_together f h key one) ∙ ap (of f) (alike key) ∙ sum_together f h key other

pub sums_of_front : (bars rest : List Bar) → AllSumsFit (bars ++ rest) → AllSumsFit bars
sums_of_front bars rest fit = record {
  volume = λ key. omega (arith, less (λ b. b.volume) key, fit.volume key);
  notional = λ key. omega (arith, less (λ b. b.notional) key, fit.notional key);
  trades = λ key. omega (arith, less (λ b. b.trades) key, fit.trades key);
}
  where
    less : (f : Bar → ℕ) (key : Key) → sum_by f (under key bars) ≤ sum_by f (under key (bars ++ rest))
    less f key = omega (arith, ap (sum_by f) (filter-append (λ b. has b key) bars rest), sum_by-append f (under key bars) (under key rest))

-- both behind other bars
module _ (before one other : List Bar) (alike : AreJoinedAlike one other) where
  pub next_alike_behind : (last best : Option Bar) → IsNext last (before ++ one) best → IsNext last (before ++ other) best
  next_alike_behind last best = next_alike last best (before ++ one) (before ++ other) (alike_parts before before one other (λ key. refl) alike)

  pub sums_alike_behind : AllSumsFit (before ++ other) → AllSumsFit (before ++ one)
  sums_alike_behind = sums_alike (before ++ one) (before ++ other) (alike_parts before before one other (λ key. refl) alike)

-- ---- the bars of the first tables, as far as they are in a range

module _ (bounds : List ℕ) (tables : List (Bor (List Bar))) (i : ℕ) where
  abbrev of_first : ℕ → List Bar
  of_first k = filter (is_in_first locate_of bounds) (flat_map (λ (t : Bor (List Bar)). t.now) (take k tables))

  -- and those of one table more
  pub range_of_more : (table : Bor (List Bar)) → i < length tables → table ≡ get_or tables i table
      → of_first (i + 1) ≡ of_first i ++ filter (is_in_first locate_of bounds) table.now
  range_of_more table within at =
      let now : Bor (List Bar) → List Bar = λ t. t.now in
      ap (filter (is_in_first locate_of bounds)) (flat_map_next now tables i table within ∙ ap (λ t. flat_map now (take i tables) ++ now t) (sym at))
      ∙ filter-append (is_in_first locate_of bounds) (flat_map now (take i tables)) table.now

  -- the sums fit, as they do of all tables
  pub sums_in_tables : AllSumsFit (all_bars (lent tables)) → AllSumsFit (of_first i)
  sums_in_tables fit =
      let now : Bor (List Bar) → List Bar = λ t. t.now in
      let front = flat_map now (take i tables) in
      let whole : all_bars (lent tables) ≡ front ++ flat_map now (drop i tables) =
      flat_map-map (λ (l : List Bar). l) now tables ∙ ap (flat_map now) (sym (take-append-drop i tables)) ∙ flat_map-append now (take i tables) (drop i tables) in
      sums_within (is_in_first locate_of bounds) (first_as_locate bounds) (of_first i) front (λ key. refl)
      (sums_of_front front (flat_map now (drop i tables)) (subst AllSumsFit whole fit))

-- ---- the next bar of a table

none_later : (last : Option Bar) (table : List Bar) → IsByKey table → IsNext last table None → filter (is_later last) table ≡ []
none_later last table up next =
    none_pass (is_later last) table (All-weaker (Contains table) (λ bar. is_later last bar ≡ false) (λ bar there.
    elim (cases_Bool (is_later last bar)) [
      | inl late ↦ (let none = next bar late in let one = together_found (key_of bar) table up ∙ found_itself table bar up there in absurd (cc))
      | inr early ↦ early
    ]) table (All-contains_itself table))

left_false : (a b : Bool) → (a && b) ≡ false → b ≡ true → a ≡ false
left_false true b p q = sym q ∙ p
left_false false b p q = refl

-- a bar of a table that no later one comes before
module _ (last : Option Bar) (bar : Bar) (late : is_later last bar ≡ true) where
  abbrev IsNotBefore : Bar → Type 0
  IsNotBefore other = (is_later last other && is_lt (key_cmp other bar)) ≡ false

  all_behind : (table : List Bar) → AllByRecursion (λ z. key_cmp bar z ≡ Less) table → (filter (is_later last) table ≡ table) × (filter (is_later (Some bar)) table ≡ table)
  all_behind table above =
      let all = All-from_recursion (λ z. key_cmp bar z ≡ Less) table above in (
        all_pass (is_later last) table (All-weaker (λ z. key_cmp bar z ≡ Less) (λ z. is_later last z ≡ true) (λ z less. later_through last bar z late less) table all),
        all_pass (is_later (Some bar)) table (All-weaker (λ z. key_cmp bar z ≡ Less) (λ z. is_later (Some bar) z ≡ true) (λ z less. ap is_lt less) table all),
      )

  at_bar : (table : List Bar) → AllByRecursion (λ z. key_cmp bar z ≡ Less) table
      → filter (is_later last) (bar ∷ table) ≡ bar ∷ filter (is_later (Some bar)) (bar ∷ table)
  at_bar table above =
      let behind = all_behind table above in
      let itself : is_lt (key_cmp bar bar) ≡ false = grind (arith, nat_tests) in
      rw (late, itself) (ap (λ l. bar ∷ l) (behind.0 ∙ sym behind.1))

  from_bar : (table : List Bar) → IsByKey table → Contains table bar → All IsNotBefore table
      → filter (is_later last) table ≡ bar ∷ filter (is_later (Some bar)) table
  from_bar [] up there none = absurd (omega (arith, there.1))
  from_bar (x ∷ xs) up there none =
      let above = sorted_head key_cmp x xs up in
      ⊎_elim
      (λ e. subst (λ y. filter (is_later last) (y ∷ xs) ≡ bar ∷ filter (is_later (Some bar)) (y ∷ xs)) (sym e)
      (at_bar xs (subst (λ y. AllByRecursion (λ z. key_cmp y z ≡ Less) xs) e above)))
      (λ d.
      let less = All-contains (λ z. key_cmp x z ≡ Less) xs bar (All-from_recursion _ xs above) d in
      let early : is_later last x ≡ false = left_false _ _ (All-head IsNotBefore x xs none) (ap is_lt less) in
      let not_behind : is_lt (key_cmp bar x) ≡ false = grind (arith, nat_tests) in
      rw (early, not_behind) (from_bar xs (sorted_tail key_cmp x xs up) d (All-tail IsNotBefore x xs none)))
      (Contains_cons x bar xs there)

pub next_in_table : (last : Option Bar) (table : List Bar) (bar : Bar) → IsByKey table → IsNext last table (Some bar)
    → filter (is_later last) table ≡ bar ∷ filter (is_later (Some bar)) table
next_in_table last table bar up next =
    let there = found_in table (key_of bar) bar (sym (together_found (key_of bar) table up) ∙ next.1) in
    from_bar last bar next.0 table up there
    (All-weaker (Contains table) (λ other. (is_later last other && is_lt (key_cmp other bar)) ≡ false) (λ other there.
    elim (cases_Bool (is_later last other && is_lt (key_cmp other bar))) [
      | inl both ↦ (let parts = and_parts (is_later last other) (is_lt (key_cmp other bar)) both in
          let none = next.2 other parts.0 parts.1 in
          let one = together_found (key_of other) table up ∙ found_itself table other up there in absurd (cc))
      | inr early ↦ early
    ]) table (All-contains_itself table))

-- ---- the next bar of the range of all bars

module _ (bounds : List ℕ) (bars all : List Bar) (union : IsUnionOf bars all) (last : Option Bar) where
  abbrev in_range : List Bar → List Bar
  in_range those = filter (is_in_first locate_of bounds) those

  range_union : IsUnionOf (in_range bars) (in_range all)
  range_union = IsUnionOf-within (is_in_first locate_of bounds) (first_as_locate bounds) bars all union

  of_all : (best : Option Bar) → IsNext last (in_range bars) best → IsNext last (in_range all) best
  of_all best = next_alike last best (in_range bars) (in_range all) (λ key. sym (alike_from range_union key))

  pub next_in_range : (bar : Bar) → IsNext last (in_range bars) (Some bar)
      → filter (is_later last) (in_range all) ≡ bar ∷ filter (is_later (Some bar)) (in_range all)
  next_in_range bar next = next_in_table last (in_range all) bar range_union.rise (of_all (Some bar) next)

  none_in_range : IsNext last (in_range bars) None → filter (is_later last) (in_range all) ≡ []
  none_in_range next = none_later last (in_range all) range_union.rise (of_all None next)

  -- which stands behind those up to the last one
  pub next_behind : (bar : Bar) (done : List Bar) → IsNext last (in_range bars) (Some bar) → in_range all ≡ done ++ filter (is_later last) (in_range all)
      → in_range all ≡ done ++ bar ∷ filter (is_later (Some bar)) (in_range all)
  next_behind bar done next so_far = so_far ∙ ap (λ l. done ++ l) (next_in_range bar next)

  pub none_behind : (done : List Bar) → IsNext last (in_range bars) None → in_range all ≡ done ++ filter (is_later last) (in_range all) → in_range all ≡ done
  none_behind done next so_far = so_far ∙ ap (λ l. done ++ l) (none_in_range next) ∙ append-nil done

  -- the next bar has a line
  pub next_writable : (bar : Bar) → IsNext last (in_range bars) (Some bar) → All IsTraded bars → All (λ bar. bar.start < TIME_LIMIT) bars → IsWritable bar
  next_writable bar next traded starts =
      let told = table_has IsTold (λ a b p q. (joined_traded a b p.0 q.0, p.1)) bars all union (λ k d h. (traded k d h, starts k d h)) in
      let here = All-filter (is_later last) IsTold (in_range all) (All-filter (is_in_first locate_of bounds) IsTold all told) in
      let one = All-head IsTold bar (filter (is_later (Some bar)) (in_range all)) (subst (All IsTold) (next_in_range bar next) here) in
      (one.1, one.0.0, average_fits bar one.0)
