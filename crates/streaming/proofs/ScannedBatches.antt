-- The batches of a source are scanned one after the other, and the totals of their scans are joined.
use Rattle.std.proofs.Common.{inr, ◌≡◌, ℕ, ◌≤◌, Bool, true, false, List, [], ◌++◌, Option, Result, Ok, Err, length, IfErr, IfOk}
use Rattle.std.proofs.Common.{refl, sym, ap, ap₂, ◌∙◌, subst, arith, length-append}
use Rattle.std.specs.List.{concat}
use Rattle.std.proofs.lemmas.List.Elements.{All-append}
use Rattle.std.proofs.lemmas.List.Folds.{concat-append}
use Rattle.base.specs.declared.limits.TheConstants.{LONGEST_FILE, MOST_MORSELS}
use Rattle.base.specs.Among.{AreBytes}
use Rattle.cutting.specs.Cutting.{IsCutBy}
use Rattle.day_file.specs.Cuts.{IsRun}
use Rattle.sources.specs.Given.{GaveAll, GaveSome}
use Rattle.sources.specs.declared.source.Source.{Ghosts as SourceOf}
use Rattle.scanning.specs.Scans.{AreRuns, AreTogether, ScanInputView, ScanTotalView, inputs_from, inputs_of, total_of, with_scans}
use Rattle.scanning.proofs.JoinedRuns.{joined_bytes, runs_joined}
use Rattle.scanning.proofs.TotalOfScans.{total_joined}
use Rattle.streaming.specs.Batches.{IsNextBatch, IsReadTo, ReaderView}
use Rattle.streaming.specs.Readings.{of_stream}
use Rattle.streaming.specs.declared.batch.Batch.{Batch}
use Rattle.streaming.proofs.JoinedBatches.{read_length_is}
use Rattle.streaming.specs.ScannedBatches.{IsScanOfAll, IsScanOfBatch}
use Rattle.streaming.specs.ScannedSoFar.{IsAhead, IsScannedTo}

-- what is said of a success, and of an error
pub of_ok : {A E : Type 0} (P : A → Type 0) (r : Result A E) (x : A) → r ≡ Ok x → IfOk r P → P x
of_ok P r x is h = subst (λ w. IfOk w P) is h

pub of_err : {A E : Type 0} (P : E → Type 0) (r : Result A E) (x : E) → r ≡ Err x → IfErr r P → P x
of_err P r x is h = subst (λ w. IfErr w P) is h

-- a batch is scanned, neighbouring morsels together
pub scanned_batch : {as_of : Option ℕ} {parts most : ℕ} (batch : Batch) {inputs : List ScanInputView} {total : ScanTotalView} → AreRuns batch.start batch.cut
    → AreTogether most batch.first batch.start as_of parts batch.cut inputs → total ≡ total_of inputs → IsScanOfBatch batch as_of parts total
scanned_batch batch are t is = record {
  runs = t.joined;
  same = joined_bytes t.is;
  is = record { are = runs_joined are t.is; is = is ∙ ap total_of t.are };
}

-- the total of some runs with that of the batch after them
with_batch : {as_of : Option ℕ} {parts start : ℕ} (scanned : List (List ℕ)) (batch : Batch) {total more : ScanTotalView} → batch.start ≡ start
    → start ≡ length (concat scanned) → total ≡ total_of (inputs_of as_of parts scanned) → (scan : IsScanOfBatch batch as_of parts more)
    → with_scans total more ≡ total_of (inputs_of as_of parts (scanned ++ scan.runs))
with_batch {as_of} {parts} scanned batch at start is scan =
    ap₂ with_scans is (scan.is.is ∙ ap (λ s. total_of (inputs_from batch.first s as_of parts scan.runs)) (at ∙ start))
    ∙ sym (total_joined batch.first as_of parts scanned scan.runs)

-- the bytes of both
same_bytes : (scanned runs more cut : List (List ℕ)) → concat scanned ≡ concat runs → concat more ≡ concat cut
    → concat (scanned ++ more) ≡ concat (runs ++ cut)
same_bytes scanned runs more cut p q = concat-append scanned more ∙ ap₂ ◌++◌ p q ∙ sym (concat-append runs cut)

module _ {S : Type 0} {stream : SourceOf S} {limit target : ℕ} {before : S} where
  -- the batch that is read once these runs are read comes after them
  pub read_ahead : {was now : S} {old new : ReaderView} {runs : List (List ℕ)} {batch : Batch} → IsReadTo stream before was runs old
      → (old.limit ≡ limit) × (old.target ≡ target) → (new.limit ≡ old.limit) × (new.target ≡ old.target)
      → IsNextBatch stream was now old new batch → IsAhead stream limit target before now new runs batch
  read_ahead {now = now} {runs = runs} {batch = batch} to is same next = record {
    number = next.number ∙ to.has.first;
    start = next.start ∙ to.has.start;
    more = λ e. next.more e before runs to;
    last = λ e. (
      subst (λ l. GaveAll stream l before now (concat (runs ++ batch.cut))) is.0 (next.last e before runs to).0,
      subst (λ t. IsCutBy t (runs ++ batch.cut) (concat (runs ++ batch.cut))) is.1 (next.last e before runs to).1,
    );
    same = (same.0 ∙ is.0, same.1 ∙ is.1);
    has_room = λ e. omega (arith, (next.longer e).1, same.0, is.0);
  }

  -- and so does the next one
  pub next_ahead : {was now : S} {old new : ReaderView} {runs : List (List ℕ)} {batch next : Batch}
      → IsAhead stream limit target before was old runs batch → batch.is_last ≡ false → (new.limit ≡ old.limit) × (new.target ≡ old.target)
      → IsNextBatch stream was now old new next → IsAhead stream limit target before now new (runs ++ batch.cut) next
  next_ahead ahead is_not_last same read = read_ahead (ahead.more is_not_last) ahead.same same read

  -- how much the source may have given
  pub gave_some : {now : S} {reader : ReaderView} {runs : List (List ℕ)} {batch : Batch}
      → IsAhead stream limit target before now reader runs batch → GaveSome stream limit before now
  gave_some {now = now} {batch = batch} ahead = by_end batch.is_last refl
    where
      by_end : (b : Bool) → batch.is_last ≡ b → GaveSome stream limit before now
      by_end true e = let all = (ahead.last e).0 in record { bytes = _; gave = all.gave; within = omega (arith, all.within) }
      by_end false e =
          let to = ahead.more e in
          record { bytes = to.bytes; gave = to.gave; within = omega (arith, read_length_is to.has, ahead.has_room e) }

  -- the first batch is all that the source gave
  pub one_batch : {now : S} {reader : ReaderView} {batch : Batch} → IsAhead stream limit target before now reader [] batch → batch.is_last ≡ true
      → (of_stream stream limit target before now).all (concat batch.cut) × (of_stream stream limit target before now).answerable (concat batch.cut)
  one_batch {batch = batch} ahead is_last =
      let all = ahead.last is_last in (all.0, inr (batch.cut, all.1, omega (arith, batch.few)))

  module _ {as_of : Option ℕ} {parts : ℕ} where
    -- a batch is scanned, and the next one was read
    pub went_on : {was now : S} {old new : ReaderView} {total more : ScanTotalView} {batch next : Batch}
        → IsScannedTo stream limit target as_of parts before was (record { reader = old; total = total; batch = batch }) → batch.is_last ≡ false
        → IsScanOfBatch batch as_of parts more → (new.limit ≡ old.limit) × (new.target ≡ old.target)
        → IsNextBatch stream was now old new next
        → IsScannedTo stream limit target as_of parts before now (record { reader = new; total = with_scans total more; batch = next })
    went_on {batch = batch} to is_not_last scan same read = record {
      runs = to.runs ++ batch.cut;
      scanned = to.scanned ++ scan.runs;
      same = same_bytes to.scanned to.runs scan.runs batch.cut to.same scan.same;
      each = All-append IsRun to.scanned scan.runs to.each scan.is.are.each;
      bytes = All-append AreBytes to.scanned scan.runs to.bytes scan.is.are.bytes;
      is = with_batch to.scanned batch to.ahead.start (ap length (sym to.same)) to.is scan;
      ahead = next_ahead to.ahead is_not_last same read;
    }

    -- the last batch is scanned
    pub ended : {now : S} {reader : ReaderView} {total more : ScanTotalView} {batch : Batch} → limit ≤ LONGEST_FILE
        → IsScannedTo stream limit target as_of parts before now (record { reader = reader; total = total; batch = batch }) → batch.is_last ≡ true
        → IsScanOfBatch batch as_of parts more → IsScanOfAll (of_stream stream limit target before now) as_of parts (with_scans total more)
    ended {now = now} {batch = batch} most to is_last scan =
        let all = to.ahead.last is_last in
        let same = sym (same_bytes to.scanned to.runs scan.runs batch.cut to.same scan.same) in
        let few : length (to.runs ++ batch.cut) ≤ MOST_MORSELS = omega (arith, length-append to.runs batch.cut, to.ahead.number, batch.few) in
        let reading = of_stream stream limit target before now in (
          to.scanned ++ scan.runs,
          subst reading.all same all.0,
          subst reading.answerable same (inr (to.runs ++ batch.cut, all.1, few)),
          record {
            are = record {
              each = All-append IsRun to.scanned scan.runs to.each scan.is.are.each;
              bytes = All-append AreBytes to.scanned scan.runs to.bytes scan.is.are.bytes;
              within = omega (arith, all.0.within, most, ap length same);
            };
            is = with_batch to.scanned batch to.ahead.start (ap length (sym to.same)) to.is scan;
          },
        )
