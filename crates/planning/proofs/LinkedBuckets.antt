-- The buckets that a plan has are those that the total is linked to.
use Rattle.std.proofs.Common.{◌≡◌, ℕ, ◌≤◌, arith, List, Option, flat_map, map, refl, sym, ap, None, Some, ◌∙◌, subst, ⊎_elim}
use Rattle.std.specs.Arc.{arc_value}
use Rattle.std.specs.List.{concat}
use Rattle.std.specs.Option.{option_map_or}
use Rattle.std.proofs.lemmas.Bool.{cases_lt}
use Rattle.std.proofs.lemmas.List.{map-id}
use Rattle.std.proofs.lemmas.List.Elements.{All-map}
use Rattle.std.proofs.lemmas.List.Folds.{flat_map-map}
use Rattle.std.proofs.lemmas.Simd.{map-map}
use Rattle.std.proofs.lemmas.List.FromFn.{length-map-range_with_len}
use Rattle.base.proofs.Lists.{flat_map_none}
use Rattle.base.specs.Least.{numbers_below}
use Rattle.row_types.specs.declared.directory.DirectoryRow.{DirectoryRow}
use Rattle.day_file.specs.Cuts.{MorselView}
use Rattle.day_file.specs.Frames.{StandsFrom}
use Rattle.day_file.specs.Kept.{numbered}
use Rattle.day_file.specs.Walk.{frames_of}
use Rattle.day_file.proofs.Walks.{frames_of_runs}
use Rattle.day_file.proofs.Laws.{places_rise}
use Rattle.meaning.specs.Meaning.{Meaning}
use Rattle.day_rows.specs.Messages.{messages_of}
use Rattle.day_rows.proofs.CountedMessages.{counted_by_place, few_trades}
use Rattle.day_rows.proofs.RowsByPlace.{messages_by_place}
use Rattle.morsel_rows.specs.Partitions.{AreRowsByPlace, MorselRowsView, joined_partitions, no_rows_in, partition_at}
use Rattle.morsel_rows.proofs.JoinedPartitions.{partition_past}
use Rattle.morsel_rows.proofs.MessagesOfPartition.{no_rows_by_place, partition_by_place}
use Rattle.scanning.specs.Scans.{AreConsecutive, ScanTotalView, total_of}
use Rattle.scanning.proofs.JoinedRuns.{bytes_of_runs}
use Rattle.scanning.specs.declared.wrong.WrongLength.{WrongLength}
use Rattle.gathering.specs.Totals.{IsTotal}
use Rattle.gathering.specs.declared.linked.Linked.TheVariants.{Next, Halt}
use Rattle.buckets.specs.BucketRows.{BucketView, bucket_of, planned_rows}
use Rattle.buckets.specs.Buckets.{AreNumbered}
use Rattle.buckets.specs.declared.plan.Plan.{Plan}
use Rattle.planning.specs.Planned.{LinkView, ToBuckets, all_breaks, all_directory, linked_to, planned_bucket, planned_buckets}
use Rattle.buckets.specs.Plans.{rising, selection_of}
use Rattle.planning.proofs.FittingRows.{trades_fit}
use Rattle.planning.proofs.MorselsOfCuts.{counted_in, input_of, partition_is, partitions_are}

-- ---- a plan's buckets

-- a plan is made of these rows, for this query
pub record IsPlanOf (query : Meaning) (morsels : List MorselRowsView) (plan : Plan) : Type 0 where
  pub rows : map arc_value plan.rows.items ≡ morsels
  pub breaks : plan.breaks ≡ rising (all_breaks morsels)
  pub selection : plan.selection ≡ selection_of query (all_directory morsels)
  pub what : plan.what ≡ query.what

pub planned_rows_are : (query : Meaning) (morsels : List MorselRowsView) (plan : Plan) (number : ℕ) → IsPlanOf query morsels plan
    → planned_rows number plan ≡ map (partition_at number) morsels
planned_rows_are query morsels plan number is = grind (arith, map-map)

pub buckets_are : (query : Meaning) (morsels : List MorselRowsView) (plan : Plan) (parts : ℕ) → IsPlanOf query morsels plan
    → map (bucket_of plan) (numbers_below parts) ≡ planned_buckets query morsels parts
buckets_are query morsels plan parts is = λ i. map (λ number. one number i) (numbers_below parts)
  where
    one : (number : ℕ) → bucket_of plan number ≡ planned_bucket query morsels number
    one number = let rows = planned_rows_are query morsels plan number is in grind arith

pub buckets_numbered : (plan : Plan) (parts : ℕ) → AreNumbered (map (bucket_of plan) (numbers_below parts))
buckets_numbered plan parts = record {
  numbers = map-map (λ (bucket : BucketView). bucket.number) (bucket_of plan) (numbers_below parts) ∙ map-id (numbers_below parts)
      ∙ ap numbers_below (sym (length-map-range_with_len (bucket_of plan) 0 parts));
  what = plan.what;
  one = All-map (λ (bucket : BucketView). bucket.what ≡ plan.what) (bucket_of plan) (numbers_below parts) (λ k d h. refl);
}

-- ---- the rows of one cut are by place

no_rows : (as_of : Option ℕ) (n number : ℕ) → n ≤ number → (morsels : List MorselView)
    → joined_partitions (map (partition_at number) (total_of (map (input_of as_of n) morsels)).morsels) ≡ no_rows_in
no_rows as_of n number past morsels =
    partitions_are as_of n number (λ rows. no_rows_in) (λ rows. partition_past n rows number past) morsels ∙ simp (flat_map-map, flat_map_none)

-- each partition of the total of morsels of a cut that follow each other has its rows by place
pub rows_by_place : (total : ScanTotalView) → IsTotal (λ inputs total. total ≡ total_of inputs) AreConsecutive total
    → (number : ℕ) → AreRowsByPlace (joined_partitions (map (partition_at number) total.morsels))
rows_by_place total (inputs, cut, is) number =
    let morsels = numbered cut.first cut.start cut.runs in
    let n = cut.parts in
    let frames = flat_map frames_of morsels in
    let stands : StandsFrom cut.start frames (concat cut.runs) = frames_of_runs cut.first cut.start cut.runs cut.each in
    let by_place = counted_by_place cut.as_of (messages_of frames) (messages_by_place frames (places_rise cut.start frames stands.places)) in
    let few = few_trades cut.as_of (concat cut.runs) frames stands (omega (arith, cut.within)) in
    let fit = trades_fit cut.as_of (concat cut.runs) frames (bytes_of_runs cut.runs cut.bytes) stands cut.within in
    subst (λ (t : ScanTotalView). AreRowsByPlace (joined_partitions (map (partition_at number) t.morsels))) (sym (is ∙ ap total_of cut.are))
    (⊎_elim
    (λ below. subst AreRowsByPlace (sym (partition_is cut.as_of n number below morsels))
    (partition_by_place n number (counted_in cut.as_of n morsels) by_place few fit.0 fit.1))
    (λ past. subst AreRowsByPlace (sym (no_rows cut.as_of n number past morsels)) no_rows_by_place) (cases_lt number n))

-- ---- what is linked

-- buckets only if no length is wrong
pub next_of : (link : LinkView) (total : ScanTotalView) {inputs : List BucketView} {kept : List DirectoryRow} → Next inputs kept ≡ linked_to link total
    → (total.wrong ≡ None) × (inputs ≡ planned_buckets link.query total.morsels link.parts) × (kept ≡ all_directory total.morsels)
next_of link total {inputs} {kept} = by total.wrong refl
  where
    by : (wrong : Option WrongLength) → total.wrong ≡ wrong
        → ◌≡◌ {A = ToBuckets} (Next inputs kept) (option_map_or Halt wrong (Next (planned_buckets link.query total.morsels link.parts) (all_directory total.morsels)))
        → (total.wrong ≡ None) × (inputs ≡ planned_buckets link.query total.morsels link.parts) × (kept ≡ all_directory total.morsels)
    by None none e = (none, cc, cc)
    by (Some w) some e = absurd (cc)

-- and a wrong length only if it is that of the total
pub halt_of : (link : LinkView) (total : ScanTotalView) {stop : WrongLength} → Halt stop ≡ linked_to link total → total.wrong ≡ Some stop
halt_of link total {stop} = by total.wrong
  where
    by : (wrong : Option WrongLength)
        → ◌≡◌ {A = ToBuckets} (Halt stop) (option_map_or Halt wrong (Next (planned_buckets link.query total.morsels link.parts) (all_directory total.morsels)))
        → wrong ≡ Some stop
    by None e = absurd (cc)
    by (Some w) e = let same : stop ≡ w = cc in ap Some (sym same)
