-- What executions behind others add to the sales that are kept, and to the first execution that has no price.
use Rattle.std.proofs.Common.{◌≡◌, ℕ, ◌+◌, ◌<◌, All, Bool, Bor, List, ◌++◌, ap, ap₂, refl, get_or, length, map, option_map, option_to_list, sym, take, ◌∙◌, filter, arith, Some}
use Rattle.std.proofs.lemmas.List.{map-append, map_push, take_more}
use Rattle.std.proofs.lemmas.List.Elements.{All-filter, filter-append, filter_map-append}
use Rattle.base.specs.Least.{least_by}
use Rattle.base.proofs.Least.{least_by-map, least_of_both}
use Rattle.base.proofs.Lists.{flat_map_push}
use Rattle.order_table.specs.declared.OrderRow.{OrderRow}
use Rattle.morsel_rows.specs.Partitions.{FitSixBytes, PartitionView, joined_partitions}
use Rattle.day_rows.proofs.Stamped.{All-filter_map}
use Rattle.probe.specs.Pricing.{Execution, Sale, Unknown, first_unknown, is_unknown, priced, sale_of, unknown_of}
use Rattle.probe.specs.Selection.{is_kept, kept}
use Rattle.buckets.specs.BucketRows.{rows_of_partitions}

module _ (rows : List OrderRow) (so_far more : List Execution) where
  pub kept_behind : (breaks : List ℕ) (selection : Sale → Bool)
      → kept breaks selection (priced rows (so_far ++ more)) ≡ kept breaks selection (priced rows so_far) ++ kept breaks selection (priced rows more)
  kept_behind breaks selection =
      ap (kept breaks selection) (filter_map-append (sale_of rows) so_far more)
      ∙ filter-append (is_kept breaks selection) (priced rows so_far) (priced rows more)

  abbrev unpriced : List Execution → List Unknown
  unpriced executions = map unknown_of (filter (is_unknown rows) executions)

  first_of : (executions : List Execution) → least_by (λ (u : Unknown). u.place) (unpriced executions) ≡ option_map unknown_of (first_unknown rows executions)
  first_of executions =
      least_by-map (λ (e : Execution). e.place) (λ (u : Unknown). u.place) unknown_of (λ e. refl) (filter (is_unknown rows) executions)

  pub unknown_behind : option_map unknown_of (first_unknown rows (so_far ++ more))
      ≡ least_by (λ (u : Unknown). u.place)
      (option_to_list (option_map unknown_of (first_unknown rows so_far)) ++ option_to_list (option_map unknown_of (first_unknown rows more)))
  unknown_behind =
      sym (first_of (so_far ++ more))
      ∙ ap (λ l. least_by (λ (u : Unknown). u.place) (map unknown_of l)) (filter-append (is_unknown rows) so_far more)
      ∙ ap (least_by (λ (u : Unknown). u.place)) (map-append unknown_of (filter (is_unknown rows) so_far) (filter (is_unknown rows) more))
      ∙ least_of_both (λ (u : Unknown). u.place) (unpriced so_far) (unpriced more)
      ∙ ap₂ (λ a b. least_by (λ (u : Unknown). u.place) (option_to_list a ++ option_to_list b)) (first_of so_far) (first_of more)

-- the executions of one partition more
pub executions_behind : (partitions : List (Bor PartitionView)) (i : ℕ) (d : Bor PartitionView) → i < length partitions
    → (rows_of_partitions (take (i + 1) partitions)).executions
    ≡ (rows_of_partitions (take i partitions)).executions ++ (get_or partitions i d).now.executions
executions_behind partitions i d within =
    let now : Bor PartitionView → PartitionView = λ p. p.now in
    ap (λ l. (joined_partitions (map now l)).executions) (take_more partitions i d within)
    ∙ ap (λ l. (joined_partitions l).executions) (map_push now (take i partitions) (get_or partitions i d))
    ∙ flat_map_push (λ (rows : PartitionView). rows.executions) (map now (take i partitions)) (get_or partitions i d).now

-- ---- the times and places of what is kept fit, since those of the trades do

sale_fits : (rows : List OrderRow) (e : Execution) (s : Sale) → FitSixBytes e.time e.place → sale_of rows e ≡ Some s → FitSixBytes s.time s.place
sale_fits rows e s fits is = grind arith

pub priced_fit : (rows : List OrderRow) (executions : List Execution) → All (λ e. FitSixBytes e.time e.place) executions
    → All (λ s. FitSixBytes s.time s.place) (priced rows executions)
priced_fit rows = All-filter_map (sale_of rows) (λ (e : Execution). FitSixBytes e.time e.place) (λ (s : Sale). FitSixBytes s.time s.place) (sale_fits rows)

pub kept_fit : (breaks : List ℕ) (selection : Sale → Bool) (sales : List Sale) → All (λ s. FitSixBytes s.time s.place) sales
    → All (λ s. FitSixBytes s.time s.place) (kept breaks selection sales)
kept_fit breaks selection = All-filter (is_kept breaks selection) (λ (s : Sale). FitSixBytes s.time s.place)
