-- The last bar of a table, to which the next bar is joined, or behind which it comes.
use Rattle.std.proofs.Common.{◌≡◌, ℕ, ◌+◌, ◌<◌, true, false, All, List, [], ◌∷◌, ◌++◌, length, map, take, get_or, Ordering, Less, Equal, refl, set}
use Rattle.std.proofs.Common.{Contains, sym, ◌∙◌, subst, arith, append_assoc, is_eq, is_gt, is_lt}
use Rattle.std.specs.List.Sorted.{IsSorted}
use Rattle.std.proofs.lemmas.Bool.Decides.{nat_tests}
use Rattle.std.proofs.lemmas.Grind.{common_steps, elements}
use Rattle.std.proofs.lemmas.List.{get_or-map, get_or-take, get_or_default, length-map, length-take-le, length_push, nil_from_length, take_all, take_more}
use Rattle.std.proofs.lemmas.List.Elements.{Contains-get_or, All-get_or}
use Rattle.std.proofs.lemmas.List.Sorted.{ranks_by, sorted_far}
use Rattle.std.proofs.lemmas.List.{set_at}
use Rattle.std.proofs.lemmas.Map.Keys.{Less-from_sorted, sorted_from_all_adjacent}
use Rattle.bar.specs.declared.bar.Bar.{Bar}
use Rattle.bar.specs.OneBar.{key_cmp, joined_bar, CanJoin}
use Rattle.bars.specs.Bars.{AllSumsFit, IsByKey, IsUnionOf}
pub use Rattle.bars.specs.Steps.{no_bar}
use Rattle.bar.proofs.OneBar.{key_total}
use Rattle.bars.proofs.JoinedTables.{alike_parts, pair_alike, table_has, union_from, union_itself, union_more, union_of_one}
use Rattle.bars.proofs.SumsAreBounded.{next_fits}

-- ---- the next bar

less_from : (a b : Bar) → is_gt (key_cmp a b) ≡ false → is_eq (key_cmp a b) ≡ false → key_cmp a b ≡ Less
less_from a b p q = grind (arith, nat_tests)

module _ (front : List Bar) (last bar : Bar) (up : IsByKey (front ++ last ∷ [])) where
  in_order : (k : ℕ) → k < length front → key_cmp (get_or (front ++ last ∷ []) k no_bar) (get_or (front ++ last ∷ []) (k + 1) no_bar) ≡ Less
  in_order k h = Less-from_sorted key_cmp (front ++ last ∷ []) k (k + 1) no_bar up (omega arith) (omega (arith, length_push front last))

  -- it has the last one's key
  pub joined_to_last : key_cmp last bar ≡ Equal → IsUnionOf ((front ++ last ∷ []) ++ bar ∷ []) (front ++ joined_bar last bar ∷ [])
  joined_to_last same =
      union_from _ (front ++ joined_bar last bar ∷ [])
      (sorted_from_all_adjacent key_total _ no_bar (λ k h.
      let here = in_order k (omega (arith, length_push front (joined_bar last bar))) in grind (arith, elements)))
      (rw append_assoc (alike_parts front front (joined_bar last bar ∷ []) (last ∷ bar ∷ []) (λ key. refl) (pair_alike last bar same)))

  -- it has a greater key
  pub put_behind_last : is_gt (key_cmp last bar) ≡ false → is_eq (key_cmp last bar) ≡ false
      → IsUnionOf ((front ++ last ∷ []) ++ bar ∷ []) ((front ++ last ∷ []) ++ bar ∷ [])
  put_behind_last here differ =
      union_itself _ (sorted_from_all_adjacent key_total _ no_bar (λ k h. grind (arith, elements, in_order, less_from)))

pub equal_from : (o : Ordering) → is_eq o ≡ true → o ≡ Equal
equal_from o e = grind arith

-- ---- the last bar of a vector, at n

module _ (table : List Bar) (n : ℕ) (last bar : Bar) (e : n + 1 ≡ length table) (at : last ≡ get_or table n last) (up : IsByKey table) where
  split : table ≡ take n table ++ last ∷ []
  split = grind (arith, take_all, take_more)

  pub joined_at_end : key_cmp last bar ≡ Equal → IsUnionOf (table ++ bar ∷ []) (set table n (joined_bar last bar))
  joined_at_end same =
      let count = length-take-le n table (omega (arith, e)) in
      let made = joined_to_last (take n table) last bar (subst IsByKey split up) same in
      grind (arith, split, set_at (take n table) last [] (joined_bar last bar) n)

  pub pushed_at_end : All (λ z. is_gt (key_cmp z bar) ≡ false) table → is_eq (key_cmp last bar) ≡ false → IsUnionOf (table ++ bar ∷ []) (table ++ bar ∷ [])
  pushed_at_end to differ =
      let here = All-get_or (λ z. is_gt (key_cmp z bar) ≡ false) table n last (omega (arith, e)) to in
      let made = put_behind_last (take n table) last bar (subst IsByKey split up) in grind (arith, split)

pub ruleset adding = (common_steps, nil_from_length, union_of_one, equal_from, Contains-get_or)

-- ---- sorted bars

-- a table that the bar is put into: none of its bars comes after that one, and the sums of one of its key fit
pub record CanAdd (table : List Bar) (bar : Bar) : Type 0 where
  pub by_key : IsByKey table
  pub up_to : All (λ kept. is_gt (key_cmp kept bar) ≡ false) table
  pub sums : (kept : Bar) → Contains table kept → key_cmp kept bar ≡ Equal → CanJoin kept bar

not_after : (a b : Bar) → is_lt (key_cmp b a) ≡ false → is_gt (key_cmp a b) ≡ false
not_after a b h = grind (arith, nat_tests)

-- the next of sorted bars can be put into the table that those before it are joined to
pub next_can_add : (sorted table : List Bar) (i : ℕ) (d : Bar) → IsSorted key_cmp sorted → AllSumsFit sorted → i < length sorted → IsUnionOf (take i sorted) table
    → CanAdd table (get_or sorted i d)
next_can_add sorted table i d rise fit within union =
    let bar = get_or sorted i d in
    let n = length-take-le i sorted (omega (arith, within)) in
    record {
      by_key = union.rise;
      up_to = table_has (λ z. is_gt (key_cmp z bar) ≡ false) (λ a b p q. p) (take i sorted) table union (λ k e h.
          let far = sorted_far (λ a b. is_lt (key_cmp a b)) (ranks_by key_total (λ b. b)) sorted rise k i e (omega (arith, n)) within in
          grind (arith, nat_tests, get_or-take, get_or_default sorted i e d));
      sums = λ kept there same. next_fits sorted table i d kept within union fit there same;
    }

-- so can that of the next of what has bars, and with it one bar more is joined
pub next_bar : {X : Type 0} (f : X → Bar) (xs : List X) (i : ℕ) (d : X) (bar : Bar) (table : List Bar) → IsSorted key_cmp (map f xs) → AllSumsFit (map f xs)
    → i < length xs → bar ≡ f (get_or xs i d) → IsUnionOf (take i (map f xs)) table
    → CanAdd table bar × ((new : List Bar) → IsUnionOf (table ++ bar ∷ []) new → IsUnionOf (take (i + 1) (map f xs)) new)
next_bar f xs i d bar table rise fit within is union =
    let n = length-map xs f in
    let here : get_or (map f xs) i no_bar ≡ bar = get_or-map f xs i d no_bar within ∙ sym is in
    (rw here at (next_can_add (map f xs) table i no_bar rise fit (omega (arith, n)) union), λ new made. grind (arith, union_more (map f xs) i no_bar table new))
