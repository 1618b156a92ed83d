-- Order rows in lists whose references rise, each list above those before it: they rise as one, and the list that a
-- search finds has the first row of the reference, if there is one.
use Rattle.std.proofs.Common.{◌≡◌, ℕ, zero, suc, ◌-◌, ◌<◌, ◌≤◌, ◌≢◌, true, false, eqb, ltb, List, [], ◌∷◌, ◌++◌, length, get_or, flat_map}
use Rattle.std.proofs.Common.{Option, Some, None, arith, ap, refl, sym, ◌∙◌}
use Rattle.std.specs.List.{All, AllPairs, find}
use Rattle.std.specs.List.Sorted.{IsNonDecreasingBy, IsPartitionPoint}
use Rattle.std.specs.Option.{option_or}
use Rattle.std.proofs.lemmas.Bool.{cond_both, eqb-true, ltb-false, ltb-true}
use Rattle.std.proofs.lemmas.List.{get_or_default}
use Rattle.std.proofs.lemmas.List.Elements.{All-append, All-push, All-tail}
use Rattle.std.proofs.lemmas.List.Folds.{find-append}
use Rattle.std.proofs.lemmas.List.Kept.{AllPairs-cons}
use Rattle.std.proofs.lemmas.List.Quantifiers.{all_pairs_push}
use Rattle.row_types.specs.declared.order.OrderRow.{OrderRow}
use Rattle.order_table.specs.Orders.{first_repeated, first_row}
use Rattle.order_table.proofs.RowsInOrder.{first_is_least, in_order_from_rising, rising_does_not_fall}
use Rattle.order_table.proofs.Repeats.{none_repeated}
use Rattle.buckets.specs.RisingLists.{AreRising, IsAbove, RisingList, Rise, rows_of_lists}

-- ---- lists in general

module _ {X : Type 0} (R : X → X → Type 0) where
  tail_pairs : (x : X) (xs : List X) → AllPairs R (x ∷ xs) → AllPairs R xs
  tail_pairs x xs h i j d p q = h (suc i) (suc j) d (omega (arith, p)) (omega (arith, q))

  head_pairs : (x : X) (xs : List X) → AllPairs R (x ∷ xs) → All (R x) xs
  head_pairs x xs h k d l = h 0 (suc k) d (omega arith) (omega (arith, l))

  pairs_append : (xs ys : List X) → AllPairs R xs → AllPairs R ys → All (λ x. All (R x) ys) xs → AllPairs R (xs ++ ys)
  pairs_append [] ys one other cross = other
  pairs_append (x ∷ xs) ys one other cross =
      AllPairs-cons R x (xs ++ ys) (All-append (R x) xs ys (head_pairs x xs one) (cross 0 x (omega arith)))
      (pairs_append xs ys (tail_pairs x xs one) other (λ k d l. cross (suc k) d (omega (arith, l))))

all_flat : {X Y : Type 0} (P : Y → Type 0) (f : X → List Y) (xs : List X) → All (λ x. All P (f x)) xs → All P (flat_map f xs)
all_flat P f [] h = λ k d l. absurd (omega (arith, l))
all_flat P f (x ∷ xs) h = All-append P (f x) (flat_map f xs) (h 0 x (omega arith)) (all_flat P f xs (All-tail (λ y. All P (f y)) x xs h))

-- ---- the rows of all lists

rows_of : RisingList → List OrderRow
rows_of list = list.rows

tail_rising : (list : RisingList) (lists : List RisingList) → AreRising (list ∷ lists) → AreRising lists
tail_rising list lists are = record {
  rise = All-tail (λ p. Rise p.rows) list lists are.rise;
  within = All-tail (λ p. All (λ row. row.order_no ≤ p.last) p.rows) list lists are.within;
  apart = tail_pairs IsAbove list lists are.apart;
}

-- those of later lists are above the last of the first
above : (list : RisingList) (lists : List RisingList) → AreRising (list ∷ lists) → All (λ row. list.last < row.order_no) (rows_of_lists lists)
above list lists are =
    all_flat (λ (row : OrderRow). list.last < row.order_no) (λ p. p.rows) lists (λ k d l. (head_pairs IsAbove list lists are.apart k d l).1)

pub all_rise : (lists : List RisingList) → AreRising lists → Rise (rows_of_lists lists)
all_rise [] are = λ i j d p q. absurd (omega (arith, q))
all_rise (list ∷ lists) are =
    pairs_append (λ x y. x.order_no < y.order_no) list.rows (rows_of_lists lists) (are.rise 0 list (omega arith))
    (all_rise lists (tail_rising list lists are))
    (λ k d l m e n. omega (arith, are.within 0 list (omega arith) k d l, above list lists are m e n))

pub none_twice : (lists : List RisingList) → AreRising lists → first_repeated (rows_of_lists lists) ≡ None
none_twice lists are = none_repeated (rows_of_lists lists) (all_rise lists are)

-- ---- one list more

pub rising_more : (lists : List RisingList) (list : RisingList) → AreRising lists → Rise list.rows → All (λ row. row.order_no ≤ list.last) list.rows
    → All (λ p. IsAbove p list) lists → AreRising (lists ++ list ∷ [])
rising_more lists list are rise within over = record {
  rise = All-push (λ p. Rise p.rows) lists list are.rise rise;
  within = All-push (λ p. All (λ row. row.order_no ≤ p.last) p.rows) lists list are.within within;
  apart = all_pairs_push IsAbove lists list are.apart over;
}

-- a list whose references begin above the last of each list so far
pub above_all : (lists : List RisingList) (list : RisingList) (least : ℕ) → All (λ p. p.last < least) lists → 0 < length list.rows
    → All (λ row. least ≤ row.order_no) list.rows → All (λ row. row.order_no ≤ list.last) list.rows → All (λ p. IsAbove p list) lists
above_all lists list least below some low high k d l =
    let none : OrderRow = record { place = 0; order_no = 0; price = 0 } in
    (omega (arith, below k d l, low 0 none some, high 0 none some), λ m e n. omega (arith, below k d l, low m e n))

-- ---- what a search finds

pub lasts_do_not_fall : (lists : List RisingList) → AllPairs IsAbove lists → IsNonDecreasingBy (λ list. list.last) lists
lasts_do_not_fall lists apart = rising_does_not_fall (λ (list : RisingList). list.last) lists (λ i j d p q. (apart i j d p q).0)

-- what is above the last list is above all
pub below_last : (lists : List RisingList) (q : ℕ) (e : RisingList) → AllPairs IsAbove lists → (get_or lists (length lists - 1) e).last < q
    → All (λ list. list.last < q) lists
below_last lists q e apart less k d l =
    omega (
      arith,
      less,
      lasts_do_not_fall lists apart k (length lists - 1) d (omega (arith, l)) (omega (arith, l)),
      ap (λ (list : RisingList). list.last) (get_or_default lists (length lists - 1) e d (omega (arith, l))),
    )

-- before the index are the lists of lesser last references, from it on the others
abbrev pub ListPoint : List RisingList → ℕ → ℕ → Type 0
ListPoint lists q i = IsPartitionPoint (λ list. ltb list.last q ≡ true) (λ list. ltb list.last q ≡ false) lists i

nowhere : (rows : List OrderRow) (q : ℕ) → All (λ row. row.order_no ≢ q) rows → find (λ row. eqb row.order_no q) rows ≡ None
nowhere [] q others = refl
nowhere (row ∷ rows) q others =
    cond_both (eqb row.order_no q) (Some row) (find (λ (other : OrderRow). eqb other.order_no q) rows) (λ found. found ≡ None)
    (λ e. absurd (others 0 row (omega arith) (eqb-true _ _ e))) (λ _. nowhere rows q (All-tail (λ (other : OrderRow). other.order_no ≢ q) row rows others))

or_none : (found : Option OrderRow) → option_or found None ≡ found
or_none None = refl
or_none (Some row) = refl

found_in : (lists : List RisingList) (q i : ℕ) (d : RisingList) → AreRising lists → ListPoint lists q i → i < length lists
    → find (λ row. eqb row.order_no q) (rows_of_lists lists) ≡ find (λ row. eqb row.order_no q) (get_or lists i d).rows
found_in [] q i d are point within = absurd (omega (arith, within))
found_in (list ∷ lists) q zero d are point within =
    find-append (λ (row : OrderRow). eqb row.order_no q) list.rows (rows_of_lists lists)
    ∙ ap (option_or (find (λ (row : OrderRow). eqb row.order_no q) list.rows))
    (nowhere (rows_of_lists lists) q (λ k e l same.
    omega (arith, same, above list lists are k e l, ltb-false _ _ (point.1 0 list (omega arith) (omega arith)))))
    ∙ or_none (find (λ (row : OrderRow). eqb row.order_no q) list.rows)
found_in (list ∷ lists) q (suc i) d are point within =
    find-append (λ (row : OrderRow). eqb row.order_no q) list.rows (rows_of_lists lists)
    ∙ ap (λ o. option_or o (find (λ (row : OrderRow). eqb row.order_no q) (rows_of_lists lists)))
    (nowhere list.rows q (λ k e l same.
    omega (arith, same, are.within 0 list (omega arith) k e l, ltb-true _ _ (point.0 0 list (omega arith) (omega arith)))))
    ∙ found_in lists q i d (tail_rising list lists are)
    (λ k e a b. point.0 (suc k) e (omega arith) (omega (arith, b)), λ k e a b. point.1 (suc k) e (omega (arith, a)) (omega (arith, b))) (omega (arith, within))

found_past : (lists : List RisingList) (q i : ℕ) → AreRising lists → ListPoint lists q i → length lists ≤ i
    → find (λ row. eqb row.order_no q) (rows_of_lists lists) ≡ None
found_past lists q i are point past =
    nowhere (rows_of_lists lists) q
    (all_flat (λ (row : OrderRow). row.order_no ≢ q) (λ p. p.rows) lists
    (λ k d l m e n same.
    omega (arith, same, are.within k d l m e n, ltb-true _ _ (point.0 k d (omega arith) (omega (arith, l, past))))))

module _ (lists : List RisingList) (q : ℕ) (are : AreRising lists) where
  first_found : find (λ row. eqb row.order_no q) (rows_of_lists lists) ≡ first_row (rows_of_lists lists) q
  first_found = first_is_least (rows_of_lists lists) q (in_order_from_rising (rows_of_lists lists) (all_rise lists are))

  pub first_in : (i : ℕ) (d : RisingList) → ListPoint lists q i → i < length lists
      → find (λ row. eqb row.order_no q) (get_or lists i d).rows ≡ first_row (rows_of_lists lists) q
  first_in i d point within = sym (found_in lists q i d are point within) ∙ first_found

  pub first_past : (i : ℕ) → ListPoint lists q i → length lists ≤ i → None ≡ first_row (rows_of_lists lists) q
  first_past i point past = sym (found_past lists q i are point past) ∙ first_found
