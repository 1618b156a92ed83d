-- The total of all morsels has the rows of the messages of all their frames, and the first wrong length.
use Rattle.std.proofs.Common.{◌≡◌, ℕ, ◌<◌, List, [], ◌∷◌, Option, option_map, filter, filter_map, flat_map, map, refl, arith, sym, ap, ◌∙◌}
use Rattle.std.proofs.lemmas.List.Folds.{flat_map-map}
use Rattle.std.proofs.lemmas.Simd.{map-map}
use Rattle.itch_messages.specs.Body.{has_wrong_length, length_fault_of}
use Rattle.base.specs.Least.{least_by}
use Rattle.base.proofs.Least.{least_by-flat_map, least_by-map}
use Rattle.base.proofs.Lists.{filter-flat_map, filter_map-flat_map, filter_map-map}
use Rattle.day_file.specs.Cuts.{MorselView}
use Rattle.day_file.specs.Frames.{PlacedBody}
use Rattle.day_file.specs.Walk.{frames_of}
use Rattle.day_rows.specs.DayRows.{DayRows, all_rows, rows_of}
use Rattle.day_rows.specs.Messages.{Placed, counted, first_wrong, messages_of}
use Rattle.day_rows.proofs.JoinedRows.{rows_of-parts}
use Rattle.morsel_rows.specs.Partitions.{MorselRowsView, PartitionView, in_partitions, joined_partitions, partition_at, partition_of}
use Rattle.morsel_rows.proofs.JoinedPartitions.{joined_parts, partition_at_is}
use Rattle.scanning.specs.Scans.{ScanInputView, scanned, total_of, wrong_at, wrong_in}
use Rattle.scanning.specs.declared.wrong.WrongLength.{WrongLength}
use Rattle.planning.specs.Planned.{all_breaks, all_directory}

-- what is told of a frame whose length is wrong
abbrev pub told_of : PlacedBody → WrongLength
told_of frame = record { place = frame.place; fault = length_fault_of frame.body }

-- the least wrong length is that of the first frame that has one
pub wrong_is_first : (frames : List PlacedBody) → wrong_in frames ≡ option_map told_of (first_wrong frames)
wrong_is_first frames =
    ap (least_by (λ (w : WrongLength). w.place)) (told frames)
    ∙ least_by-map (λ (f : PlacedBody). f.place) (λ (w : WrongLength). w.place) told_of (λ f. refl) (filter (λ f. has_wrong_length f.body) frames)
  where
    told : (fs : List PlacedBody) → filter_map wrong_at fs ≡ map told_of (filter (λ f. has_wrong_length f.body) fs)
    told [] = refl
    told (f ∷ fs) = let more = told fs in grind arith

module _ (as_of : Option ℕ) (n : ℕ) where
  -- what is scanned of a morsel
  abbrev pub input_of : MorselView → ScanInputView
  input_of morsel = record { morsel = morsel; as_of = as_of; parts = n }

  -- the messages of a morsel that count
  abbrev counted_of : MorselView → List Placed
  counted_of morsel = counted as_of (messages_of (frames_of morsel))

  -- of all of them
  abbrev pub counted_in : List MorselView → List Placed
  counted_in morsels = counted as_of (messages_of (flat_map frames_of morsels))

  counted_parts : (morsels : List MorselView) → flat_map counted_of morsels ≡ counted_in morsels
  counted_parts morsels = grind (arith, filter-flat_map, filter_map-flat_map)

  -- the rows of each morsel
  abbrev pub rows_of_each : List MorselView → List DayRows
  rows_of_each morsels = map (λ morsel. rows_of (counted_of morsel)) morsels

  all_rows_are : (morsels : List MorselView) → all_rows (rows_of_each morsels) ≡ rows_of (counted_in morsels)
  all_rows_are morsels =
      ap all_rows (sym (map-map rows_of counted_of morsels))
      ∙ sym (rows_of-parts (map counted_of morsels))
      ∙ ap rows_of (flat_map-map (λ (l : List Placed). l) counted_of morsels ∙ counted_parts morsels)

  rows_are : (morsels : List MorselView) → (total_of (map input_of morsels)).morsels ≡ map (in_partitions n) (rows_of_each morsels)
  rows_are morsels = grind (arith, map-map)

  -- the partitions of all morsels at a number are joined of what stands there in each
  pub partitions_are : (b : ℕ) (one : DayRows → PartitionView) → ((rows : DayRows) → partition_at b (in_partitions n rows) ≡ one rows)
      → (morsels : List MorselView) → joined_partitions (map (partition_at b) (total_of (map input_of morsels)).morsels)
      ≡ joined_partitions (map one (rows_of_each morsels))
  partitions_are b one is morsels = grind (arith, rows_are, map-map)

  -- a partition of all morsels is that of the messages
  pub partition_is : (b : ℕ) → b < n → (morsels : List MorselView)
      → joined_partitions (map (partition_at b) (total_of (map input_of morsels)).morsels) ≡ partition_of n (rows_of (counted_in morsels)) b
  partition_is b below morsels =
      partitions_are b (λ rows. partition_of n rows b) (λ rows. partition_at_is n rows b below) morsels
      ∙ joined_parts n b (rows_of_each morsels)
      ∙ ap (λ rows. partition_of n rows b) (all_rows_are morsels)

  -- so are all breaks, and all directory rows
  pub breaks_are : (morsels : List MorselView) → all_breaks (total_of (map input_of morsels)).morsels ≡ (rows_of (counted_in morsels)).breaks
  breaks_are morsels =
      ap all_breaks (rows_are morsels)
      ∙ flat_map-map (λ (rows : MorselRowsView). rows.breaks) (in_partitions n) (rows_of_each morsels)
      ∙ ap (λ (rows : DayRows). rows.breaks) (all_rows_are morsels)

  pub directory_is : (morsels : List MorselView) → all_directory (total_of (map input_of morsels)).morsels ≡ (rows_of (counted_in morsels)).directory
  directory_is morsels =
      ap all_directory (rows_are morsels)
      ∙ flat_map-map (λ (rows : MorselRowsView). rows.directory) (in_partitions n) (rows_of_each morsels)
      ∙ ap (λ (rows : DayRows). rows.directory) (all_rows_are morsels)

  -- and the wrong length is the first of all frames
  pub wrong_is : (morsels : List MorselView) → (total_of (map input_of morsels)).wrong ≡ option_map told_of (first_wrong (flat_map frames_of morsels))
  wrong_is morsels =
      ap (least_by (λ (w : WrongLength). w.place))
      (filter_map-map (λ (i : ScanInputView). (scanned i).wrong) input_of morsels)
      ∙ sym (least_by-flat_map (λ (w : WrongLength). w.place) (λ morsel. filter_map wrong_at (frames_of morsel)) morsels)
      ∙ ap (least_by (λ (w : WrongLength). w.place)) (sym (filter_map-flat_map wrong_at frames_of morsels))
      ∙ wrong_is_first (flat_map frames_of morsels)
