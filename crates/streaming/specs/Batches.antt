-- A source that is read and cut batch by batch.
-- To be believed of a crate used by itself: what is promised of a run speaks of what its source gave alone.
use Rattle.std.specs.Prelude.{◌≡◌, ℕ, ◌+◌, ◌<◌, ◌≤◌, true, false, List, ◌++◌, length, All}
use Rattle.std.specs.List.{concat}
use Rattle.base.specs.declared.limits.TheConstants.{LONGEST_FILE, MOST_MORSELS}
use Rattle.cutting.specs.Cutting.{IsCutBy}
use Rattle.cutting.specs.Feeding.{CutterView, HasFed, IsFullRun, fed_length}
use Rattle.day_file.specs.Frames.{IsTruncatedAt}
use Rattle.sources.specs.Given.{GaveAll}
use Rattle.sources.specs.declared.source.Source.{Ghosts as SourceOf}
use Rattle.streaming.specs.declared.batch.Batch.{Batch}
use Rattle.day_file.specs.declared.source_fault.SourceFault.{SourceFault}
use Rattle.day_file.specs.declared.source_fault.SourceFault.TheVariants as fault

-- what contracts see of a `BatchReader`: the most bytes that it reads, its target, how many bytes and how many morsels
-- its batches had so far, and its cutter, which was fed the bytes after those
pub record ReaderView : Type 0 where
  pub limit : ℕ
  pub target : ℕ
  pub start : ℕ
  pub first : ℕ
  pub cutter : CutterView

-- how many bytes it has read
abbrev pub read_length : ReaderView → ℕ
read_length reader = reader.start + fed_length reader.cutter

-- the reader has read these bytes, of which its batches had these runs, all of them full ones
pub record HasRead (reader : ReaderView) (runs : List (List ℕ)) (bytes : List ℕ) : Type 0 where
  pub full : All (IsFullRun reader.target) runs
  pub fed : List ℕ
  pub has : HasFed reader.cutter fed
  pub joined : bytes ≡ concat runs ++ fed
  pub first : reader.first ≡ length runs
  pub start : reader.start ≡ length (concat runs)

-- what a reader keeps between its calls
pub record IsReading (limit target start first : ℕ) (cutter : CutterView) : Type 0 where
  pub fed : List ℕ
  pub has : HasFed cutter fed
  pub same : cutter.target ≡ target
  pub target_is : 0 < target
  pub within : start + fed_length cutter ≤ limit
  pub limit_is : limit ≤ LONGEST_FILE
  pub few : first ≤ MOST_MORSELS

module _ {S : Type 0} (stream : SourceOf S) where
  -- the source gave bytes since it was `before`, and the reader has read these, of which its batches had these runs
  pub record IsReadTo (before now : S) (runs : List (List ℕ)) (reader : ReaderView) : Type 0 where
    pub bytes : List ℕ
    pub gave : stream.Gave before now bytes
    pub has : HasRead reader runs bytes

  -- the batch goes on where the reader was: the source gave more, or with this batch all that it had
  pub record IsNextBatch (was now : S) (old new : ReaderView) (batch : Batch) : Type 0 where
    pub more : batch.is_last ≡ false → (before : S) (runs : List (List ℕ)) → IsReadTo before was runs old
        → IsReadTo before now (runs ++ batch.cut) new
    pub last : batch.is_last ≡ true → (before : S) (runs : List (List ℕ)) → IsReadTo before was runs old
        → GaveAll stream old.limit before now (concat (runs ++ batch.cut))
        × IsCutBy old.target (runs ++ batch.cut) (concat (runs ++ batch.cut))
    pub number : batch.first ≡ old.first
    pub start : batch.start ≡ old.start
    pub longer : batch.is_last ≡ false → (read_length old < read_length new) × (read_length new ≤ new.limit)

-- what a refusal at the end says of the bytes that are left, behind `first` morsels of `start` bytes
abbrev pub IsLastFault : ℕ → ℕ → ℕ → List ℕ → SourceFault → Type 0
IsLastFault first start target fed (fault.Truncated place) = (k : ℕ) × IsTruncatedAt fed k × (place ≡ start + k)
IsLastFault first start target fed fault.TooManyMorsels =
    (runs : List (List ℕ)) × IsCutBy target runs fed × (MOST_MORSELS < first + length runs)
IsLastFault first start target fed fault.OutOfMemory = Unit {0}
IsLastFault first start target fed _ = ⊥
