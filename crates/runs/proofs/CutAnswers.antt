-- What both pipelines find over a cut makes the answer to the query over its file.
use Rattle.std.proofs.Common.{◌≡◌, ℕ, ◌<◌, List, [], ◌∷◌, Option, Some, None, option_map, Result, Err, map, flat_map, refl, sym, ap, ◌∙◌, subst, arith}
use Rattle.std.specs.List.{AllByRecursion, concat}
use Rattle.std.proofs.lemmas.List.Elements.{All-append, All-nil, recursion_from_All}
use Rattle.base.specs.Least.{numbers_below}
use Rattle.row_types.specs.declared.directory.DirectoryRow.{DirectoryRow}
use Rattle.base.specs.Among.{AreBytes}
use Rattle.day_file.specs.Cuts.{MorselView}
use Rattle.day_file.specs.Frames.{PlacedBody, StandsFor}
use Rattle.day_file.specs.Kept.{numbered}
use Rattle.day_file.specs.Walk.{frames_of}
use Rattle.day_file.proofs.Walks.{frames_of_cut}
use Rattle.day_file.proofs.Laws.{places_rise}
use Rattle.probe.specs.Selection.{admits}
use Rattle.meaning.specs.Meaning.{Meaning}
use Rattle.answers.specs.Answers.{IsAnswer, IsAnswerToMessages}
use Rattle.day_rows.specs.DayRows.{rows_of}
use Rattle.day_rows.specs.Messages.{Placed, break_numbers, directory_rows, first_wrong, messages_of}
use Rattle.outcomes.specs.declared.day_fault.DayFault.{DayFault}
use Rattle.outcomes.specs.declared.day_fault.DayFault.TheVariants as fault
use Rattle.answers.proofs.AnswerOfSteps.{messages_answer, wrong_length_answers}
use Rattle.day_rows.proofs.CountedMessages.{counted_by_place, few_trades}
use Rattle.day_rows.proofs.RowsByPlace.{messages_by_place}
use Rattle.day_rows.proofs.Stamped.{stamped_rows}
use Rattle.morsel_rows.specs.Partitions.{PartitionView, joined_partitions, partition_at, partition_of}
use Rattle.scanning.specs.Scans.{AreRuns, ScanTotalView, total_of}
use Rattle.scanning.specs.declared.wrong.WrongLength.{WrongLength}
use Rattle.buckets.specs.BucketRows.{BucketView}
use Rattle.buckets.specs.Buckets.{found, total_found}
use Rattle.buckets.specs.FoundRows.{FoundView, TotalView, all_found, found_of}
use Rattle.buckets.specs.Plans.{rising, selection_of}
use Rattle.planning.specs.AllBuckets.{AreGatheredOf, found_in}
use Rattle.planning.proofs.AnswerOfBuckets.{map_below}
use Rattle.planning.specs.Planned.{all_directory, planned_bucket, planned_buckets}
use Rattle.planning.proofs.MorselsOfCuts.{breaks_are, counted_in, directory_is, input_of, partition_is, told_of, wrong_is}

-- the fault of a wrong length
abbrev pub wrong_fault : WrongLength → DayFault
wrong_fault wrong = fault.WrongLength wrong.place wrong.fault.kind wrong.fault.length wrong.fault.wanted

-- the bytes of runs joined
bytes_joined : (runs : List (List ℕ)) → AllByRecursion AreBytes runs → AreBytes (concat runs)
bytes_joined [] all = All-nil _
bytes_joined (run ∷ runs) all = All-append (λ byte. byte < 256) run (concat runs) all.0 (bytes_joined runs all.1)

maps : (make : ℕ → BucketView) (bs : List ℕ) → map found (map make bs) ≡ map (λ b. found (make b)) bs
maps make [] = refl
maps make (b ∷ bs) = ap (λ l. found (make b) ∷ l) (maps make bs)

module _ (runs : List (List ℕ)) (query : Meaning) (parts : ℕ) where
  abbrev pub morsels : List MorselView
  morsels = numbered 0 0 runs

  abbrev pub frames : List PlacedBody
  frames = flat_map frames_of morsels

  abbrev pub messages : List Placed
  messages = counted_in query.as_of parts morsels

  -- the total of the first pipeline
  abbrev pub scan : ScanTotalView
  scan = total_of (map (input_of query.as_of parts) morsels)

  -- the inputs of the second
  abbrev pub buckets : List BucketView
  buckets = planned_buckets query scan.morsels parts

  -- what is found in some rows
  abbrev found_of_rows : PartitionView → FoundView
  found_of_rows = found_of query.what (rising (break_numbers messages)) (admits (selection_of query (directory_rows messages)))

  -- what is found in a bucket hangs on its rows alone
  of_rows : (number : ℕ) {rows : PartitionView} → joined_partitions (map (partition_at number) scan.morsels) ≡ rows
      → found (planned_bucket query scan.morsels number) ≡ found_of_rows rows
  of_rows number are =
      let breaks = ap rising (breaks_are query.as_of parts morsels) in
      let selection = ap (selection_of query) (directory_is query.as_of parts morsels) in
      λ i. found_of query.what (breaks i) (admits (selection i)) (are i)

  -- all buckets have found what those of the messages have
  linked_total : total_found buckets ≡ found_in parts query messages
  linked_total =
      ap all_found (maps (planned_bucket query scan.morsels) (numbers_below parts)
      ∙ map_below parts (λ b. found (planned_bucket query scan.morsels b)) (λ b. found_of_rows (partition_of parts (rows_of messages) b))
      (λ b below. of_rows b (partition_is query.as_of parts b below morsels)))

  pub right_frames : scan.wrong ≡ None → first_wrong frames ≡ None
  right_frames e = go (first_wrong frames) (sym (wrong_is query.as_of parts morsels) ∙ e)
    where
      go : (o : Option PlacedBody) → option_map told_of o ≡ None → o ≡ None
      go None f = refl
      go (Some frame) f = absurd (cc)

  pub wrong_frame : (stop : WrongLength) → scan.wrong ≡ Some stop → (frame : PlacedBody) × (first_wrong frames ≡ Some frame) × (told_of frame ≡ stop)
  wrong_frame stop e = go (first_wrong frames) refl (sym (wrong_is query.as_of parts morsels) ∙ e)
    where
      go : (o : Option PlacedBody) → first_wrong frames ≡ o → option_map told_of o ≡ Some stop
          → (frame : PlacedBody) × (first_wrong frames ≡ Some frame) × (told_of frame ≡ stop)
      go None f g = absurd (cc)
      go (Some frame) f g = let same : told_of frame ≡ stop = cc in (frame, f, same)

  module _ (are : AreRuns 0 runs) where
    pub stands : StandsFor frames (concat runs)
    stands = frames_of_cut runs are.each

    -- what all buckets found is what those of the messages have, and the names are those of their directory
    pub gathered_by : (total : TotalView) (kept : List DirectoryRow) → 0 < parts
        → total ≡ total_found buckets → kept ≡ all_directory scan.morsels → AreGatheredOf query total kept messages
    gathered_by total kept some found_is names = record {
      parts = parts;
      some = some;
      by_place = counted_by_place query.as_of (messages_of frames) (messages_by_place frames (places_rise 0 frames stands.places));
      few = few_trades query.as_of (concat runs) frames stands (omega (arith, are.within));
      stamped = stamped_rows query.as_of (concat runs) frames (bytes_joined runs (recursion_from_All AreBytes runs are.bytes)) stands;
      total_is = found_is ∙ linked_total;
      names_are = names ∙ directory_is query.as_of parts morsels;
    }

    -- no length is wrong
    pub answered_by : (told : Result (List ℕ) DayFault) → scan.wrong ≡ None → IsAnswerToMessages messages query told → IsAnswer (concat runs) query told
    answered_by told right answers = messages_answer (concat runs) query frames told stands (right_frames right) answers

    -- this length is wrong
    pub halted_by : (stop : WrongLength) (told : Result (List ℕ) DayFault) → scan.wrong ≡ Some stop → told ≡ Err (wrong_fault stop)
        → IsAnswer (concat runs) query told
    halted_by stop told wrong is =
        let first = wrong_frame stop wrong in
        subst (IsAnswer (concat runs) query) (ap (λ (w : WrongLength). Err (wrong_fault w)) first.2 ∙ sym is)
        (wrong_length_answers (concat runs) query frames first.0 stands first.1)
