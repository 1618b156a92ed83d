-- A source whose batches are scanned one after the other, between two of them.
-- Derived: no public clause cites it.
use Rattle.std.specs.Prelude.{◌≡◌, ◌≤◌, ℕ, true, false, List, ◌++◌, Option, All, length}
use Rattle.std.specs.List.{concat}
use Rattle.base.specs.Among.{AreBytes}
use Rattle.sources.specs.Given.{GaveAll}
use Rattle.sources.specs.declared.source.Source.{Ghosts as SourceOf}
use Rattle.cutting.specs.Cutting.{IsCutBy}
use Rattle.day_file.specs.Cuts.{IsRun}
use Rattle.scanning.specs.Scans.{inputs_of, total_of}
use Rattle.streaming.specs.Batches.{IsReadTo, ReaderView, read_length}
use Rattle.streaming.specs.declared.batch.Batch.{Batch}
use Rattle.streaming.specs.declared.scanned_batches.ScannedSoFar.{ScannedSoFar}

module _ {S : Type 0} (stream : SourceOf S) where
  -- the batch comes after these runs, and the source was read to its end
  pub record IsAhead (limit target : ℕ) (before now : S) (reader : ReaderView) (runs : List (List ℕ))
      (batch : Batch) : Type 0 where
    pub number : batch.first ≡ length runs
    pub start : batch.start ≡ length (concat runs)
    pub more : batch.is_last ≡ false → IsReadTo stream before now (runs ++ batch.cut) reader
    pub last : batch.is_last ≡ true → GaveAll stream limit before now (concat (runs ++ batch.cut))
        × IsCutBy target (runs ++ batch.cut) (concat (runs ++ batch.cut))
    pub same : (reader.limit ≡ limit) × (reader.target ≡ target)
    pub has_room : batch.is_last ≡ false → read_length reader ≤ limit

  -- some runs were read, their bytes were scanned in some runs, the total is that of these scans, and the batch comes
  -- after them
  pub record IsScannedTo (limit target : ℕ) (as_of : Option ℕ) (parts : ℕ) (before now : S)
      (so_far : ScannedSoFar) : Type 0 where
    pub runs : List (List ℕ)
    pub scanned : List (List ℕ)
    pub same : concat scanned ≡ concat runs
    pub each : All IsRun scanned
    pub bytes : All AreBytes scanned
    pub is : so_far.total ≡ total_of (inputs_of as_of parts scanned)
    pub ahead : IsAhead limit target before now so_far.reader runs so_far.batch
