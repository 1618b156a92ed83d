-- Rows in partitions, and one row more in the partition of its number.
use Rattle.std.proofs.Common.{◌≡◌, ℕ, zero, suc, ◌+◌, ◌<◌, ◌≤◌, ◌%◌, Bool, true, false, eqb, List, [], ◌∷◌, ◌++◌, length, map, filter, cond}
use Rattle.std.proofs.Common.{slice_index_or, slice_set, refl, sym, ap, ap₂, ◌∙◌, arith}
use Rattle.std.specs.List.{range_with_len}
use Rattle.std.proofs.lemmas.Bool.Decides.{nat_tests}
use Rattle.std.proofs.lemmas.List.{append-nil}
use Rattle.std.proofs.lemmas.List.Elements.{filter-append}
use Rattle.std.proofs.lemmas.List.FromFn.{get_or-map-range_with_len, length-map-range_with_len}
use Rattle.std.proofs.lemmas.Nat.{mod_below}
use Rattle.base.specs.Least.{numbers_below, part}
use Rattle.row_types.specs.declared.order.OrderRow.{OrderRow}
use Rattle.row_types.specs.declared.trade.Execution.{Execution}
use Rattle.row_types.specs.declared.trade.Sale.{Sale}
use Rattle.row_types.specs.declared.directory.DirectoryRow.{DirectoryRow}
use Rattle.day_rows.specs.DayRows.{DayRows, joined, no_rows}
use Rattle.morsel_rows.specs.MoreRows.{BecomesJoined, with_execution, with_order, with_sale}
use Rattle.morsel_rows.specs.Partitions.{PartitionView, partition_of}

pub same_from_number : {X : Type 0} (f g : ℕ → X) (a n : ℕ) → ((b : ℕ) → a ≤ b → f b ≡ g b) → map f (range_with_len a n) ≡ map g (range_with_len a n)
same_from_number f g a zero same = refl
same_from_number f g a (suc n) same = ap₂ ◌∷◌ (same a (omega arith)) (same_from_number f g (a + 1) n (λ b h. same b (omega arith)))

-- one item changed of those at all numbers
pub set_one : {X : Type 0} (f g : ℕ → X) (a n i j : ℕ) → i < n → a + i ≡ j → ((b : ℕ) → (b ≡ j → ⊥) → f b ≡ g b)
    → slice_set (map f (range_with_len a n)) i (g j) ≡ map g (range_with_len a n)
set_one f g a zero i j h e other = absurd (omega arith)
set_one f g a (suc n) zero j h e other =
    ap₂ ◌∷◌ (ap g (omega arith)) (same_from_number f g (a + 1) n (λ b low. other b (λ same. omega arith)))
set_one f g a (suc n) (suc i) j h e other =
    ap₂ ◌∷◌ (other a (λ same. omega arith)) (set_one f g (a + 1) n i j (omega arith) (omega arith) other)

-- a row more in the part of its number
part_of_it : {X : Type 0} (n : ℕ) (number : X → ℕ) (xs : List X) (x : X)
    → part n number (xs ++ x ∷ []) (number x % n) ≡ part n number xs (number x % n) ++ x ∷ []
part_of_it {X} n number xs x =
    let p : X → Bool = λ y. eqb (number y % n) (number x % n) in
    let yes : p x ≡ true = grind (arith, nat_tests) in
    filter-append p xs (x ∷ []) ∙ ap (λ t. filter p xs ++ cond t (x ∷ []) []) yes

-- and in no other
part_of_others : {X : Type 0} (n : ℕ) (number : X → ℕ) (xs : List X) (x : X) (b : ℕ) → (b ≡ number x % n → ⊥)
    → part n number xs b ≡ part n number (xs ++ x ∷ []) b
part_of_others {X} n number xs x b other =
    let p : X → Bool = λ y. eqb (number y % n) b in
    let no : p x ≡ false = grind (arith, nat_tests) in
    sym (filter-append p xs (x ∷ []) ∙ ap (λ t. filter p xs ++ cond t (x ∷ []) []) no ∙ append-nil (filter p xs))

-- no row more
part_same : {X : Type 0} (n : ℕ) (number : X → ℕ) (xs : List X) (b : ℕ) → part n number (xs ++ []) b ≡ part n number xs b
part_same n number xs b = ap (λ l. part n number l b) (append-nil xs)

-- if the partition of the key changes so, the changed rows are those of all messages
abbrev pub Joins : ℕ → DayRows → (PartitionView → PartitionView) → Type 0
Joins key more change =
    (items : List PartitionView) (breaks : List ℕ) (directory : List DirectoryRow) (number : ℕ) (old next : PartitionView)
    → number ≡ key % length items → old ≡ slice_index_or items number old → next ≡ change old
    → BecomesJoined more (record { partitions = items; breaks = breaks; directory = directory })
    (record { partitions = slice_set items number next; breaks = breaks; directory = directory })

-- it is so if the others stay
module _ (key : ℕ) (more : DayRows) (change : PartitionView → PartitionView)
    (its : (n : ℕ) (rows : DayRows) → partition_of n (joined rows more) (key % n) ≡ change (partition_of n rows (key % n)))
    (others : (n : ℕ) (rows : DayRows) (b : ℕ) → (b ≡ key % n → ⊥) → partition_of n rows b ≡ partition_of n (joined rows more) b)
    (breaks_same : more.breaks ≡ []) (directory_same : more.directory ≡ []) where
  joins : Joins key more change
  joins items breaks directory number old next number_is old_is next_is n rows some same =
      let all : items ≡ map (partition_of n rows) (numbers_below n) = ap (λ v. v.partitions) same in
      let long : length items ≡ n = ap length all ∙ length-map-range_with_len (partition_of n rows) 0 n in
      let at : number ≡ key % n = number_is ∙ ap (λ k. key % k) long in
      let within : number < n = rw at (mod_below key n some) in
      let was : old ≡ partition_of n rows number =
      old_is ∙ ap (λ l. slice_index_or l number old) all ∙ get_or-map-range_with_len (partition_of n rows) 0 n number number old within (omega arith) in
      let becomes : next ≡ partition_of n (joined rows more) number =
      next_is ∙ ap change (was ∙ ap (partition_of n rows) at) ∙ sym (its n rows) ∙ ap (partition_of n (joined rows more)) (sym at) in
      let partitions : slice_set items number next ≡ map (partition_of n (joined rows more)) (numbers_below n) =
      ap₂ (λ l w. slice_set l number w) all becomes
      ∙ set_one (partition_of n rows) (partition_of n (joined rows more)) 0 n number number within (omega arith)
      (λ b ne. others n rows b (λ e. ne (e ∙ sym at))) in
      let breaks_are : breaks ≡ rows.breaks ++ more.breaks =
      ap (λ v. v.breaks) same ∙ sym (append-nil rows.breaks) ∙ ap (λ l. rows.breaks ++ l) (sym breaks_same) in
      let directory_is : directory ≡ rows.directory ++ more.directory =
      ap (λ v. v.directory) same ∙ sym (append-nil rows.directory) ∙ ap (λ l. rows.directory ++ l) (sym directory_same) in
      λ i. record { partitions = partitions i; breaks = breaks_are i; directory = directory_is i }

-- one row and no other rows
abbrev pub only_order : OrderRow → DayRows
only_order row = record no_rows { orders = row ∷ [] }

abbrev pub only_execution : Execution → DayRows
only_execution row = record no_rows { executions = row ∷ [] }

abbrev pub only_sale : Sale → DayRows
only_sale row = record no_rows { own_priced = row ∷ [] }

-- an order reference more
pub order_joins : (row : OrderRow) → Joins row.order_no (only_order row) (with_order row)
order_joins row =
    let key : OrderRow → ℕ = λ r. r.order_no in
    joins row.order_no (only_order row) (with_order row)
    (λ n rows i. record {
      orders = part_of_it n key rows.orders row i;
      executions = part_same n (λ e. e.order_no) rows.executions (row.order_no % n) i;
      own_priced = part_same n (λ sale. sale.place) rows.own_priced (row.order_no % n) i;
    })
    (λ n rows b ne i. record {
      orders = part_of_others n key rows.orders row b ne i;
      executions = sym (part_same n (λ e. e.order_no) rows.executions b) i;
      own_priced = sym (part_same n (λ sale. sale.place) rows.own_priced b) i;
    }) refl refl

-- an execution more
pub execution_joins : (row : Execution) → Joins row.order_no (only_execution row) (with_execution row)
execution_joins row =
    let key : Execution → ℕ = λ r. r.order_no in
    joins row.order_no (only_execution row) (with_execution row)
    (λ n rows i. record {
      orders = part_same n (λ order. order.order_no) rows.orders (row.order_no % n) i;
      executions = part_of_it n key rows.executions row i;
      own_priced = part_same n (λ sale. sale.place) rows.own_priced (row.order_no % n) i;
    })
    (λ n rows b ne i. record {
      orders = sym (part_same n (λ order. order.order_no) rows.orders b) i;
      executions = part_of_others n key rows.executions row b ne i;
      own_priced = sym (part_same n (λ sale. sale.place) rows.own_priced b) i;
    }) refl refl

-- a sale more
pub sale_joins : (row : Sale) → Joins row.place (only_sale row) (with_sale row)
sale_joins row =
    let key : Sale → ℕ = λ r. r.place in
    joins row.place (only_sale row) (with_sale row)
    (λ n rows i. record {
      orders = part_same n (λ order. order.order_no) rows.orders (row.place % n) i;
      executions = part_same n (λ e. e.order_no) rows.executions (row.place % n) i;
      own_priced = part_of_it n key rows.own_priced row i;
    })
    (λ n rows b ne i. record {
      orders = sym (part_same n (λ order. order.order_no) rows.orders b) i;
      executions = sym (part_same n (λ e. e.order_no) rows.executions b) i;
      own_priced = part_of_others n key rows.own_priced row b ne i;
    }) refl refl
