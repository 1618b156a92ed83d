-- The rows of the partitions of morsels, with those of one morsel more. By place, no place stands twice in a list of them or in what is kept of their trades,
-- and those are few.
use Rattle.std.proofs.Common.{◌≡◌, ℕ, ◌+◌, ◌<◌, ◌≤◌, zero, suc, All, flat_map, List, [], ◌∷◌, ◌++◌, Some, Bor, get_or, length, map, take, sym, ap, ap₂, ◌∙◌, Bool, nat_eq, arith}
use Rattle.std.specs.Arc.{arc_value}
use Rattle.std.specs.List.{slice_get, IsDistinct}
use Rattle.std.specs.declared.alloc.Global.{Global}
use Rattle.std.specs.declared.sync.Arc.{Arc}
use Rattle.std.proofs.lemmas.List.{append-nil, get_or_past, take_more, map_push, length-append}
use Rattle.std.proofs.lemmas.Option.{get_or_from_slice_get}
use Rattle.base.proofs.Lists.{All-parts, flat_map_push}
use Rattle.morsel_rows.specs.SameRows.{is_same_partition, partition_equiv}
use Rattle.morsel_rows.specs.Partitions.{MorselRowsView, PartitionView, joined_partitions, no_rows_in, partition_at, AreRowsByPlace}
use Rattle.buckets.specs.BucketRows.{rows_at, rows_of_partitions}
use Rattle.base.specs.declared.limits.TheConstants.{TRADE_LIMIT}
use Rattle.row_types.specs.declared.order.OrderRow.{OrderRow}
use Rattle.probe.specs.Pricing.{priced}
use Rattle.row_types.specs.declared.trade.Sale.{Sale}
use Rattle.probe.proofs.KeptSales.{length-kept, length-priced}
use Rattle.time_and_sales.specs.Lent.{AreApart}
use Rattle.day_rows.proofs.RowsByPlace.{kept_apart, orders_distinct}
use Rattle.buckets.specs.FoundRows.{sales_in, trades_in}

-- rows, and others after them
with_rows : PartitionView → PartitionView → PartitionView
with_rows rows more = record {
  orders = rows.orders ++ more.orders;
  executions = rows.executions ++ more.executions;
  own_priced = rows.own_priced ++ more.own_priced;
}

same_rows : {one other : PartitionView} → one.orders ≡ other.orders → one.executions ≡ other.executions → one.own_priced ≡ other.own_priced → one ≡ other
same_rows orders executions own_priced = λ i. record { orders = orders i; executions = executions i; own_priced = own_priced i }

joined_more : (partitions : List PartitionView) (partition : PartitionView)
    → joined_partitions (partitions ++ partition ∷ []) ≡ with_rows (joined_partitions partitions) partition
unfolding with_rows
joined_more partitions partition =
    same_rows
    (flat_map_push (λ (rows : PartitionView). rows.orders) partitions partition)
    (flat_map_push (λ (rows : PartitionView). rows.executions) partitions partition)
    (flat_map_push (λ (rows : PartitionView). rows.own_priced) partitions partition)

joined_none : (rows : PartitionView) → with_rows rows no_rows_in ≡ rows
unfolding with_rows
joined_none rows = same_rows (append-nil rows.orders) (append-nil rows.executions) (append-nil rows.own_priced)

pub none_turned : (rows : PartitionView) → is_same_partition rows no_rows_in ≡ is_same_partition no_rows_in rows
none_turned rows = partition_equiv.symm rows no_rows_in

-- of the partition of a number those that it has, or none, on either side of a comparison
pub ruleset rows_of_one = (get_or_past, get_or_from_slice_get, none_turned)

-- ---- the partition of one morsel more

module _ (number i : ℕ) (morsels : List (Arc MorselRowsView Global)) (d : Arc MorselRowsView Global) (within : i < length morsels) where
  morsel_more : joined_partitions (rows_at number (take (i + 1) morsels))
      ≡ with_rows (joined_partitions (rows_at number (take i morsels))) (partition_at number (arc_value (get_or morsels i d)))
  morsel_more =
      let at : Arc MorselRowsView Global → PartitionView = λ morsel. partition_at number (arc_value morsel) in
      ap (λ l. joined_partitions (map at l)) (take_more morsels i d within)
      ∙ ap joined_partitions (map_push at (take i morsels) (get_or morsels i d))
      ∙ joined_more (rows_at number (take i morsels)) (at (get_or morsels i d))

  -- it has one of the number
  pub partition_more : (partitions new : List (Bor PartitionView)) (partition : Bor PartitionView)
      → rows_of_partitions partitions ≡ joined_partitions (rows_at number (take i morsels))
      → new ≡ partitions ++ partition ∷ [] → slice_get (arc_value (get_or morsels i d)).partitions number ≡ Some partition.now
      → rows_of_partitions new ≡ joined_partitions (rows_at number (take (i + 1) morsels))
  partition_more partitions new partition before pushed there =
      let now : Bor PartitionView → PartitionView = λ p. p.now in
      ap (λ l. joined_partitions (map now l)) pushed ∙ ap joined_partitions (map_push now partitions partition)
      ∙ joined_more (map now partitions) partition.now
      ∙ ap₂ with_rows before (sym (get_or_from_slice_get (arc_value (get_or morsels i d)).partitions number partition.now no_rows_in there)) ∙ sym morsel_more

  -- it has none
  pub partition_missing : (partitions : List (Bor PartitionView)) → rows_of_partitions partitions ≡ joined_partitions (rows_at number (take i morsels))
      → length (arc_value (get_or morsels i d)).partitions ≤ number → rows_of_partitions partitions ≡ joined_partitions (rows_at number (take (i + 1) morsels))
  partition_missing partitions before past =
      before
      ∙ sym (morsel_more
      ∙ ap (with_rows (joined_partitions (rows_at number (take i morsels)))) (get_or_past (arc_value (get_or morsels i d)).partitions number no_rows_in past)
      ∙ joined_none (joined_partitions (rows_at number (take i morsels))))

  -- it has one without rows
  pub partition_empty : (partitions : List (Bor PartitionView)) (partition : PartitionView)
      → rows_of_partitions partitions ≡ joined_partitions (rows_at number (take i morsels))
      → slice_get (arc_value (get_or morsels i d)).partitions number ≡ Some partition → partition ≡ no_rows_in
      → rows_of_partitions partitions ≡ joined_partitions (rows_at number (take (i + 1) morsels))
  partition_empty partitions partition before there empty =
      before
      ∙ sym (morsel_more
      ∙ ap (with_rows (joined_partitions (rows_at number (take i morsels))))
      (get_or_from_slice_get (arc_value (get_or morsels i d)).partitions number partition no_rows_in there ∙ empty)
      ∙ joined_none (joined_partitions (rows_at number (take i morsels))))

-- what all rows of partitions are, those of each are
pub each_part : {Y : Type 0} (rows_in : PartitionView → List Y) (P : Y → Type 0) (partitions : List (Bor PartitionView)) (i : ℕ) (d : Bor PartitionView)
    → i < length partitions → All P (flat_map rows_in (map (λ (p : Bor PartitionView). p.now) partitions)) → All P (rows_in (get_or partitions i d).now)
each_part rows_in P [] i d within all = absurd (omega (arith, within))
each_part rows_in P (p ∷ ps) zero d within all = (All-parts P (rows_in p.now) (flat_map rows_in (map (λ (p : Bor PartitionView). p.now) ps)) all).0
each_part rows_in P (p ∷ ps) (suc i) d within all =
    each_part rows_in P ps i d (omega (arith, within)) (All-parts P (rows_in p.now) (flat_map rows_in (map (λ (p : Bor PartitionView). p.now) ps)) all).1

module _ (rows : PartitionView) (are : AreRowsByPlace rows) where
  pub orders_apart : IsDistinct nat_eq (map (λ (row : OrderRow). row.place) rows.orders)
  orders_apart = rw are.orders (orders_distinct are.messages are.by_place)

  pub sales_apart : (breaks : List ℕ) (selection : Sale → Bool) → AreApart (sales_in breaks selection rows)
  sales_apart breaks selection = rw (are.orders, are.executions, are.own_priced) (kept_apart breaks selection are.messages are.by_place)

  pub few_sales : (breaks : List ℕ) (selection : Sale → Bool) → length (sales_in breaks selection rows) < TRADE_LIMIT
  few_sales breaks selection =
      omega (
        arith,
        length-kept breaks selection (trades_in rows),
        length-append (priced rows.orders rows.executions) rows.own_priced,
        length-priced rows.orders rows.executions,
        are.few,
      )
