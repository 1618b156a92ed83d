-- The rows that a filter needs answer as all rows do, and its bits that are set stay set.
use Rattle.std.proofs.Common.{◌≡◌, ℕ, ◌<◌, ◌∷◌, [], ◌++◌, Bool, true, false, nat_eq, List, map, filter, All, Contains, length, get_or, refl, sym, ap, ◌∙◌, inl}
use Rattle.std.proofs.Common.{inr, arith, ◌/◌, set, eq-eqb, eqb-true}
use Rattle.std.specs.List.{AllByRecursion, AllPairs, IsDistinct}
use Rattle.std.proofs.lemmas.Bool.{cases_order, cond_both, cases_eq}
use Rattle.std.proofs.lemmas.List.{get_or_default, get_or-map, length-map, get_or-set_other, get_or-set_same, length-set}
use Rattle.std.proofs.lemmas.List.Elements.{All-contains_itself, All-head, All-map, All-push, All-tail, All-weaker}
use Rattle.std.proofs.lemmas.List.Quantifiers.{all_pairs_push}
use Rattle.base.specs.Least.{least_by}
use Rattle.base.proofs.Lists.{filters_commute}
use Rattle.base.proofs.Order.{Contains-from_filter, passes_filter}
use Rattle.order_table.specs.Orders.{OrderRow, first_repeated, is_repeated}
use Rattle.order_table.proofs.Repeats.{repeated_by}
use Rattle.order_table.proofs.PartRows.{repeated_where, rows_where}
use Rattle.order_list.specs.Bits.{may_have, mask_of, word_of}
use Rattle.order_list.specs.Filters.{IsFilterOf, is_needed}
use Rattle.order_list.specs.declared.filter.OrderFilter.{OrderFilter}
use Rattle.std.proofs.lemmas.Nat.{and_or_self, or_shr}
use Rattle.std.specs.Prelude.{bit_and, bit_or}
use lib.Arith.{bin_ind}
use lib.Bits.{and_step, and_zero_r, or_step}

-- what passes a test is kept
pub all_pass : {X : Type 0} (test : ℕ → Bool) (number : X → ℕ) (xs : List X) → All (λ n. test n ≡ true) (map number xs)
    → filter (λ x. test (number x)) xs ≡ xs
all_pass test number [] each = refl
all_pass test number (x ∷ xs) each =
    rw (All-head (λ n. test n ≡ true) (number x) (map number xs) each)
    (ap (λ l. x ∷ l) (all_pass test number xs (All-tail (λ n. test n ≡ true) (number x) (map number xs) each)))

apart_kept : {X : Type 0} (n : ℕ) (number : X → ℕ) (p : X → Bool) (xs : List X) → AllByRecursion (λ m. nat_eq n m ≡ false) (map number xs)
    → AllByRecursion (λ m. nat_eq n m ≡ false) (map number (filter p xs))
apart_kept n number p [] all = tt
apart_kept n number p (x ∷ xs) all =
    let more = apart_kept n number p xs all.1 in
    cond_both (p x) (x ∷ filter p xs) (filter p xs) (λ l. AllByRecursion (λ m. nat_eq n m ≡ false) (map number l)) (λ _. (all.0, more)) (λ _. more)

-- what is kept is told apart as all are
pub distinct_filter : {X : Type 0} (number : X → ℕ) (p : X → Bool) (xs : List X) → IsDistinct nat_eq (map number xs)
    → IsDistinct nat_eq (map number (filter p xs))
unfolding IsDistinct
distinct_filter number p [] distinct = tt
distinct_filter number p (x ∷ xs) distinct =
    let more = distinct_filter number p xs distinct.1 in
    cond_both (p x) (x ∷ filter p xs) (filter p xs) (λ l. IsDistinct nat_eq (map number l))
    (λ _. (apart_kept (number x) number p xs distinct.0, more)) (λ _. more)

-- if of each two orders of one reference both pass, no row that repeats one is lost
module _ (test : ℕ → Bool) (rows : List OrderRow)
    (both : AllPairs (λ x y. x ≡ y → test x ≡ true) (map (λ (row : OrderRow). row.order_no) rows)) where
  at : (i : ℕ) (d : OrderRow) → i < length rows → get_or (map (λ (row : OrderRow). row.order_no) rows) i 0 ≡ (get_or rows i d).order_no
  at i d inside = get_or-map (λ (row : OrderRow). row.order_no) rows i d 0 inside

  pair_passes : (i j : ℕ) (x y : OrderRow) → i < j → i < length rows → j < length rows → get_or rows i x ≡ x → get_or rows j y ≡ y
      → x.order_no ≡ y.order_no → test x.order_no ≡ true
  pair_passes i j x y below inside_x inside here there same =
      let first : get_or (map (λ (row : OrderRow). row.order_no) rows) i 0 ≡ x.order_no = at i x inside_x ∙ ap (λ (row : OrderRow). row.order_no) here in
      rw first at (both i j 0 below (omega (arith, inside, length-map rows (λ (row : OrderRow). row.order_no)))
      (first ∙ same ∙ sym (at j y inside ∙ ap (λ (row : OrderRow). row.order_no) there)))

  repeated_passes : (row : OrderRow) → Contains rows row → is_repeated rows row ≡ true → test row.order_no ≡ true
  repeated_passes row c repeats =
      let found = repeated_by rows row repeats in
      let (other, o, same, earlier) = found in
      elim (cases_order o.0 c.0) [
        | inl one ↦ absurd (let same_row : other ≡ row = sym o.2 ∙ get_or_default rows o.0 other row o.1 ∙ ap (λ i. get_or rows i row) one ∙ c.2 in
            omega (arith, earlier, ap (λ (r : OrderRow). r.place) same_row))
        | inr (inl below) ↦ rw same at (pair_passes o.0 c.0 other row below o.1 c.1 o.2 c.2 same)
        | inr (inr above) ↦ pair_passes c.0 o.0 row other above c.1 o.1 c.2 o.2 (sym same)
      ]

  pub first_repeated_where : first_repeated (rows_where test rows) ≡ first_repeated rows
  first_repeated_where =
      ap (least_by (λ (row : OrderRow). row.place))
      (filters_commute (is_repeated (rows_where test rows)) (is_repeated rows) (λ (row : OrderRow). test row.order_no) (repeated_where test rows) rows
      ∙ all_pass test (λ (row : OrderRow). row.order_no) (filter (is_repeated rows) rows)
      (All-map (λ n. test n ≡ true) (λ (row : OrderRow). row.order_no) _ (All-weaker (Contains (filter (is_repeated rows) rows)) _
      (λ row c. repeated_passes row (Contains-from_filter _ rows row c) (passes_filter _ rows row c)) _ (All-contains_itself _))))

-- one order more
module _ (executed ordered : List ℕ) (order_no : ℕ) (old new : OrderFilter) where
  pub order_added : IsFilterOf executed ordered old
      → ((other : ℕ) → may_have old.seen other ≡ true → may_have new.seen other ≡ true)
      → ((other : ℕ) → is_needed old other ≡ true → is_needed new other ≡ true)
      → may_have new.seen order_no ≡ true → (may_have old.seen order_no ≡ true → is_needed new order_no ≡ true)
      → IsFilterOf executed (ordered ++ order_no ∷ []) new
  order_added was seen needed now repeats = record {
    needs_executed = All-weaker _ _ needed executed was.needs_executed;
    has_seen = All-push (λ other. may_have new.seen other ≡ true) ordered order_no (All-weaker _ _ seen ordered was.has_seen) now;
    needs_repeated = all_pairs_push (λ x y. x ≡ y → is_needed new x ≡ true) ordered order_no
        (λ i j d below inside same. needed _ (was.needs_repeated i j d below inside same))
        (λ k d inside same. rw same (repeats (rw same at (was.has_seen k d inside))));
  }

-- ---- bits that are set stay set

-- those of n stay where those of m are set
mask_kept : (n word m : ℕ) → bit_and word n ≡ n → bit_and (bit_or word m) n ≡ n
mask_kept =
    bin_ind (λ (n : ℕ). (word m : ℕ) → bit_and word n ≡ n → bit_and (bit_or word m) n ≡ n) (λ word m has. and_zero_r (bit_or word m))
    (λ n more word m has.
    let half : bit_and (word / 2) (n / 2) ≡ n / 2 = omega (arith, has, and_step word n) in
    let rest : bit_and (bit_or word m / 2) (n / 2) ≡ n / 2 = ap (λ x. bit_and x (n / 2)) (or_shr word m 1) ∙ more (word / 2) (m / 2) half in
    omega (arith, has, and_step word n, and_step (bit_or word m) n, rest, or_step word m))

module _ (words : List ℕ) (order_no w m word : ℕ) (word_is : w ≡ word_of (length words) order_no) (mask_is : m ≡ mask_of (length words) order_no)
    (inside : w < length words) (old : word ≡ get_or words w word) where
  abbrev pub with_reference : List ℕ
  with_reference = set words w (bit_or word m)

  same_length : length with_reference ≡ length words
  same_length = length-set words w (bit_or word m)

  pub inserted : may_have with_reference order_no ≡ true
  inserted = rw (same_length, sym word_is, sym mask_is)
      (eq-eqb _ m (ap (λ it. bit_and it m) (get_or-set_same words w _ 0 inside) ∙ and_or_self m word))

  pub kept : (other : ℕ) → may_have words other ≡ true → may_have with_reference other ≡ true
  kept other has = rw same_length (eq-eqb _ _ (elim (cases_eq (word_of (length words) other) w) [
    | inl same ↦
        let n = mask_of (length words) other in
        let here : bit_and word n ≡ n = ap (λ it. bit_and it n) (old ∙ get_or_default words w word 0 inside ∙ ap (λ v. get_or words v 0) (sym same))
        ∙ eqb-true _ n has in
        ap (λ v. bit_and (get_or with_reference v 0) n) same ∙ ap (λ it. bit_and it n) (get_or-set_same words w _ 0 inside) ∙ mask_kept n word m here
    | inr other_word ↦ ap (λ it. bit_and it (mask_of (length words) other)) (get_or-set_other words w _ _ 0 other_word) ∙ eqb-true _ _ has
  ]))
