-- Items in the order of a number, taken one after another: the next one is the least of those behind the last.
use Rattle.std.proofs.Common.{◌≡◌, ℕ, ◌+◌, ◌<◌, ◌≤◌, Bool, true, false, ltb, All, List, [], ◌∷◌, ◌++◌, length, take, drop, filter, flat_map}
use Rattle.std.proofs.Common.{get_or, Option, Some, None, option_to_list, Contains, IsPermutation, nat_cmp, Less, refl, sym, ap, ◌∙◌, subst, arith, ⊎_elim}
use Rattle.std.specs.List.{slice_get}
use Rattle.std.specs.List.Sorted.{IsStrictlySortedBy}
use Rattle.std.proofs.Math.Seq.{take-add, take-length}
use Rattle.std.proofs.lemmas.Bool.{le-ltb}
use Rattle.std.proofs.lemmas.Bool.Decides.{nat_tests}
use Rattle.std.proofs.lemmas.List.{drop-drop, drop_at, length-append, length-drop, take-append-le}
use Rattle.std.proofs.lemmas.List.Elements.{All-contains, All-filter, All-from_recursion, All-head, All-tail, All-weaker, filter-append, filter_passes}
use Rattle.std.proofs.lemmas.List.Kept.{IsStrictlySortedBy-filter}
use Rattle.std.proofs.lemmas.List.Sorted.{All-permutation, IsPermutation-sym}
use Rattle.std.proofs.lemmas.Map.Keys.{sorted_head, sorted_tail}
use Rattle.base.specs.Least.{least_by, least_of}
use Rattle.base.proofs.Least.{TellsApart-permutation, least_by-permutation, least_of_both}
use Rattle.base.proofs.Lists.{IsPermutation-filter, filter_of_filter, flat_map_next}
use Rattle.base.proofs.Order.{Contains_cons, TellsApart, TellsApart-filter}
use Rattle.time_and_sales.specs.Ranges.{is_behind}
use Rattle.time_and_sales.proofs.InRanges.{all_pass}

pub length_filter : {X : Type 0} (p : X → Bool) (xs : List X) → length (filter p xs) ≤ length xs
length_filter p [] = omega arith
length_filter p (x ∷ xs) = let more = length_filter p xs in grind arith

module _ {X : Type 0} (number : X → ℕ) where
  -- each number is greater than the one before
  abbrev pub Rises : List X → Type 0
  Rises xs = IsStrictlySortedBy (λ a b. nat_cmp (number a) (number b)) xs

  above : (x : X) (xs : List X) → Rises (x ∷ xs) → All (λ y. number x < number y) xs
  above x xs up =
      All-weaker (λ y. nat_cmp (number x) (number y) ≡ Less) (λ y. number x < number y) (λ y e. grind (arith, nat_tests)) xs
      (All-from_recursion _ xs (sorted_head (λ a b. nat_cmp (number a) (number b)) x xs up))

  stays_least : (x : X) (xs : List X) → All (λ y. number x < number y) xs → least_of number x xs ≡ x
  stays_least x [] h = refl
  stays_least x (y ∷ ys) h =
      let less = All-head (λ z. number x < number z) y ys h in
      rw (le-ltb (number y) (number x) (omega (arith, less))) (stays_least x ys (All-tail (λ z. number x < number z) y ys h))

  -- the least of items in order is the first
  pub first_is_least : (xs : List X) → Rises xs → least_by number xs ≡ slice_get xs 0
  first_is_least [] up = refl
  first_is_least (x ∷ xs) up = ap Some (stays_least x xs (above x xs up))

  -- what is behind the first of items in order is all the others
  others : (x : X) (xs : List X) → Rises (x ∷ xs) → filter (is_behind number (Some (number x))) (x ∷ xs) ≡ xs
  others x xs up =
      let itself : ltb (number x) (number x) ≡ false = grind (arith, nat_tests) in
      let all = All-weaker (λ y. number x < number y) (λ y. is_behind number (Some (number x)) y ≡ true) (λ y l. grind (arith, nat_tests)) xs (above x xs up) in
      rw itself (all_pass (is_behind number (Some (number x))) xs all)

  least_first : (xs : List X) (next : X) → Rises xs → least_by number xs ≡ Some next → xs ≡ next ∷ filter (is_behind number (Some (number next))) xs
  least_first [] next up e = absurd (cc)
  least_first (x ∷ xs) next up e =
      let same : x ≡ next = let f = sym (first_is_least (x ∷ xs) up) ∙ e in cc in
      subst (λ n. x ∷ xs ≡ n ∷ filter (is_behind number (Some (number n))) (x ∷ xs)) same (sym (ap (λ l. x ∷ l) (others x xs up)))

  behind_both : (last : Option ℕ) (next x : X) → is_behind number last next ≡ true → is_behind number (Some (number next)) x ≡ true
      → is_behind number last x ≡ true
  behind_both None next x p q = refl
  behind_both (Some last) next x p q = grind (arith, nat_tests)

  -- what is behind a number begins with the least of it, and behind that one are the others
  pub next_and_others : (xs : List X) (last : Option ℕ) (next : X) → Rises xs → least_by number (filter (is_behind number last) xs) ≡ Some next
      → filter (is_behind number last) xs ≡ next ∷ filter (is_behind number (Some (number next))) xs
  next_and_others xs last next up e =
      let p = is_behind number last in
      let front = least_first (filter p xs) next (IsStrictlySortedBy-filter (λ a b. nat_cmp (number a) (number b)) p xs up) e in
      let passes = All-head (λ y. p y ≡ true) next _ (subst (All (λ y. p y ≡ true)) front (filter_passes p xs)) in
      front ∙ ap (λ l. next ∷ l) (filter_of_filter (is_behind number (Some (number next))) p (λ x. behind_both last next x passes) xs)

  none_left : (xs : List X) → least_by number xs ≡ None → xs ≡ []
  none_left [] e = refl
  none_left (x ∷ xs) e = absurd (cc)

  -- ---- items in another order

  tell_apart : (xs : List X) → Rises xs → TellsApart number xs
  tell_apart [] up x y p q e = absurd (omega (arith, p.1))
  tell_apart (z ∷ zs) up x y p q e =
      let higher : (w : X) → Contains zs w → number z < number w = λ w c. All-contains (λ v. number z < number v) zs w (above z zs up) c in
      ⊎_elim (λ a. ⊎_elim (λ b. sym a ∙ b) (λ d. absurd (omega (arith, higher y d, e, ap number a))) (Contains_cons z y zs q))
      (λ c. ⊎_elim (λ b. absurd (omega (arith, higher x c, e, ap number b)))
      (λ d. tell_apart zs (sorted_tail (λ a b. nat_cmp (number a) (number b)) z zs up) x y c d e) (Contains_cons z y zs q)) (Contains_cons z x zs p)

  -- the least of what passes is the same in any order of the items
  pub least_in_order : (p : X → Bool) (xs sorted : List X) → Rises sorted → IsPermutation xs sorted
      → least_by number (filter p xs) ≡ least_by number (filter p sorted)
  least_in_order p xs sorted up same =
      let apart = TellsApart-permutation number sorted xs (IsPermutation-sym xs sorted same) (tell_apart sorted up) in
      least_by-permutation number (filter p xs) (filter p sorted) (TellsApart-filter number p xs apart) (IsPermutation-filter p xs sorted same)

-- the least of what passes in lists, with one list more
pub least_more_lists : {A X : Type 0} (number : X → ℕ) (p q : X → Bool) (f : A → List X) (xs : List A) (i : ℕ) (d : A) → i < length xs
    → least_by number (filter p (filter q (flat_map f (take (i + 1) xs))))
    ≡ least_by number (option_to_list (least_by number (filter p (filter q (flat_map f (take i xs)))))
    ++ option_to_list (least_by number (filter p (filter q (f (get_or xs i d))))))
least_more_lists {A} {X} number p q f xs i d h =
    let keep : List X → List X = λ ys. filter p (filter q ys) in
    let so_far = flat_map f (take i xs) in
    let more = f (get_or xs i d) in
    ap (λ ys. least_by number (keep ys)) (flat_map_next f xs i d h)
    ∙ ap (λ ys. least_by number (filter p ys)) (filter-append q so_far more)
    ∙ ap (least_by number) (filter-append p (filter q so_far) (filter q more))
    ∙ least_of_both number (keep so_far) (keep more)

-- ---- the text of items that pass a test, of which each next one is found in the items in another order

module _ {X : Type 0} (number : X → ℕ) (p : X → Bool) (items sorted : List X) (up : Rises number sorted) (same : IsPermutation items sorted) where
  -- the items that are behind the last
  abbrev pub left_behind : Option ℕ → List X
  left_behind last = filter (is_behind number last) (filter p sorted)

  -- the least of them, as it is found
  abbrev pub found : Option ℕ → Option X
  found last = least_by number (filter (is_behind number last) (filter p items))

  rises : Rises number (filter p sorted)
  rises = IsStrictlySortedBy-filter (λ a b. nat_cmp (number a) (number b)) p sorted up

  found_is : (last : Option ℕ) → found last ≡ least_by number (left_behind last)
  found_is last = least_in_order number (is_behind number last) (filter p items) (filter p sorted) rises (IsPermutation-filter p items sorted same)

  pub next_of_left : (last : Option ℕ) (next : X) → Some next ≡ found last → left_behind last ≡ next ∷ left_behind (Some (number next))
  next_of_left last next e = next_and_others number (filter p sorted) last next rises (sym (found_is last) ∙ sym e)

  pub holds_of_next : (P : X → Type 0) → All P items → (last : Option ℕ) (next : X) → Some next ≡ found last → P next
  holds_of_next P all last next e =
      let left = All-filter (is_behind number last) P (filter p sorted) (All-filter p P sorted (All-permutation P items sorted same all)) in
      All-head P next (left_behind (Some (number next))) (subst (All P) (next_of_left last next e) left)

  module _ (line : X → List ℕ) (written : ℕ) (last : Option ℕ) (left : drop written (flat_map line (filter p sorted)) ≡ flat_map line (left_behind last)) where
    -- the line of the next item is next
    pub next_text : (next : X) → Some next ≡ found last
        → drop written (flat_map line (filter p sorted)) ≡ line next ++ flat_map line (left_behind (Some (number next)))
    next_text next e = left ∙ ap (flat_map line) (next_of_left last next e)

    -- where there is none, all is written
    pub all_written : None ≡ found last → written ≤ length (flat_map line (filter p sorted)) → written ≡ length (flat_map line (filter p sorted))
    all_written e within =
        let nothing = none_left number (left_behind last) (sym (found_is last) ∙ sym e) in
        omega (arith, length-drop written (flat_map line (filter p sorted)), ap length (left ∙ ap (flat_map line) nothing), within)

-- ---- a text, taken piece after piece

-- some of the next piece
pub piece_taken : (text piece rest : List ℕ) (taken part : ℕ) → drop taken text ≡ piece ++ rest → part ≤ length piece
    → take (taken + part) text ≡ take taken text ++ take part piece
piece_taken text piece rest taken part left within =
    take-add taken part text ∙ ap (λ l. take taken text ++ take part l) left ∙ ap (λ l. take taken text ++ l) (take-append-le part piece rest within)

-- all of it
pub whole_piece_taken : (text piece rest : List ℕ) (taken part : ℕ) → drop taken text ≡ piece ++ rest → part ≡ length piece
    → take (taken + part) text ≡ take taken text ++ piece
whole_piece_taken text piece rest taken part left all =
    piece_taken text piece rest taken part left (omega (arith, all)) ∙ ap (λ n. take taken text ++ take n piece) all
    ∙ ap (λ l. take taken text ++ l) (take-length piece)

pub rest_behind_piece : (text piece rest : List ℕ) (taken part : ℕ) → drop taken text ≡ piece ++ rest → part ≡ length piece → drop (taken + part) text ≡ rest
rest_behind_piece text piece rest taken part left all =
    sym (drop-drop part taken text) ∙ ap (drop part) left ∙ drop_at piece rest part (sym all)

pub piece_within : (text piece rest : List ℕ) (taken : ℕ) → drop taken text ≡ piece ++ rest → taken ≤ length text → taken + length piece ≤ length text
piece_within text piece rest taken left within = omega (arith, length-drop taken text, ap length left, length-append piece rest, within)
