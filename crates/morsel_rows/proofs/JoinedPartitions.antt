-- The partitions of joined rows are the joined partitions, a partition stands at its number, and the only one has all.
use Rattle.std.proofs.Common.{◌≡◌, ℕ, ◌<◌, ◌≤◌, ◌%◌, ◌==◌, true, List, [], ◌∷◌, Some, map, flat_map, slice_get, refl, sym, ap, ◌∙◌, arith}
use Rattle.std.proofs.lemmas.Bool.Decides.{nat_tests}
use Rattle.std.proofs.lemmas.List.{get_or_past}
use Rattle.std.proofs.lemmas.List.FromFn.{get_or-map-range_with_len, length-map-range_with_len}
use Rattle.std.proofs.lemmas.List.Folds.{flat_map-map}
use Rattle.std.proofs.lemmas.Option.{get_or_from_slice_get}
use Rattle.base.specs.Least.{part, numbers_below}
use Rattle.base.proofs.Lists.{filter-flat_map}
use Rattle.row_types.specs.declared.order.OrderRow.{OrderRow}
use Rattle.row_types.specs.declared.trade.Execution.{Execution}
use Rattle.row_types.specs.declared.trade.Sale.{Sale}
use Rattle.day_rows.specs.DayRows.{DayRows, all_rows}
use Rattle.morsel_rows.specs.Partitions.{PartitionView, in_partitions, joined_partitions, no_rows_in, partition_at, partition_of}

part_of_parts : {Y : Type 0} (n b : ℕ) (number : Y → ℕ) (all : DayRows → List Y) (one : PartitionView → List Y)
    → ((rows : DayRows) → one (partition_of n rows b) ≡ part n number (all rows) b) → (parts : List DayRows)
    → flat_map one (map (λ rows. partition_of n rows b) parts) ≡ part n number (flat_map all parts) b
part_of_parts n b number all one is parts =
    flat_map-map one (λ rows. partition_of n rows b) parts
    ∙ (λ i. flat_map (λ rows. is rows i) parts)
    ∙ sym (filter-flat_map (λ y. number y % n == b) all parts)

-- a partition of each of several lists of rows, joined, is that of them all
pub joined_parts : (n b : ℕ) (parts : List DayRows) → joined_partitions (map (λ rows. partition_of n rows b) parts) ≡ partition_of n (all_rows parts) b
joined_parts n b parts =
    let orders = part_of_parts n b (λ (row : OrderRow). row.order_no) (λ rows. rows.orders) (λ rows. rows.orders) (λ rows. refl) parts in
    let executions = part_of_parts n b (λ (row : Execution). row.order_no) (λ rows. rows.executions) (λ rows. rows.executions) (λ rows. refl) parts in
    let own_priced = part_of_parts n b (λ (sale : Sale). sale.place) (λ rows. rows.own_priced) (λ rows. rows.own_priced) (λ rows. refl) parts in
    λ i. record { orders = orders i; executions = executions i; own_priced = own_priced i }

-- partition b of n stands at b
pub partition_at_is : (n : ℕ) (rows : DayRows) (b : ℕ) → b < n → partition_at b (in_partitions n rows) ≡ partition_of n rows b
partition_at_is n rows b below = get_or-map-range_with_len (partition_of n rows) 0 n b b no_rows_in below (omega arith)

-- past the last stands none
pub partition_past : (n : ℕ) (rows : DayRows) (b : ℕ) → n ≤ b → partition_at b (in_partitions n rows) ≡ no_rows_in
partition_past n rows b past =
    get_or_past (map (partition_of n rows) (numbers_below n)) b no_rows_in
    (omega (arith, length-map-range_with_len (partition_of n rows) 0 n, past))

-- all items are in the one part by 1
whole_part : {X : Type 0} (number : X → ℕ) (xs : List X) → part 1 number xs 0 ≡ xs
whole_part number [] = refl
whole_part number (x ∷ xs) = let zero : (number x % 1 == 0) ≡ true = grind (arith, nat_tests) in rw zero (ap (λ l. x ∷ l) (whole_part number xs))

-- and all rows in the one partition
pub one_partition : (rows : DayRows) (one : PartitionView) → slice_get (in_partitions 1 rows).partitions 0 ≡ Some one
    → one ≡ record { orders = rows.orders; executions = rows.executions; own_priced = rows.own_priced }
one_partition rows one there =
    sym (get_or_from_slice_get (in_partitions 1 rows).partitions 0 one no_rows_in there) ∙ partition_at_is 1 rows 0 (omega arith)
    ∙ (λ i. record {
      orders = whole_part (λ (row : OrderRow). row.order_no) rows.orders i;
      executions = whole_part (λ (row : Execution). row.order_no) rows.executions i;
      own_priced = whole_part (λ (sale : Sale). sale.place) rows.own_priced i;
    })
