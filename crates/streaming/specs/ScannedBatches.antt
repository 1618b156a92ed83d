-- A source whose batches are scanned, each while the next one is read.
-- To be believed of a crate used by itself: what is promised of a run speaks of what its source gave alone.
use Rattle.std.specs.Prelude.{◌≡◌, ℕ, ◌↔◌, List, Option, Result, true, IfErr, IfOk, IsErrOf}
use Rattle.std.specs.List.{concat}
use Rattle.sources.specs.declared.source.Source.{Ghosts as SourceOf}
use Rattle.day_file.specs.Sources.{IsSourceFault, Reading}
use Rattle.day_file.specs.declared.source_fault.SourceFault.{SourceFault}
use Rattle.scanning.specs.Scans.{AreRuns, ScanTotalView, inputs_from, total_of}
use Rattle.streaming.specs.Batches.{IsNextBatch, IsReadTo, ReaderView}
use Rattle.streaming.specs.Readings.{of_stream}
use Rattle.streaming.specs.declared.batch.Batch.{Batch}
use Rattle.streaming.specs.declared.scanned_batches.WholeSource.{WholeSource}
use Rattle.streaming.specs.declared.scanned_batches.WholeSource.TheVariants.{Short, Long}

-- the total of the scans of runs of whole frames that follow each other in a file: the first one has this number, and
-- begins at this place
pub record IsScanOf (first start : ℕ) (as_of : Option ℕ) (parts : ℕ) (runs : List (List ℕ)) (total : ScanTotalView)
    : Type 0 where
  pub are : AreRuns start runs
  pub is : total ≡ total_of (inputs_from first start as_of parts runs)

-- the total of the scans of a batch: of some cut of its bytes into runs of whole frames
pub record IsScanOfBatch (batch : Batch) (as_of : Option ℕ) (parts : ℕ) (total : ScanTotalView) : Type 0 where
  pub runs : List (List ℕ)
  pub same : concat runs ≡ concat batch.cut
  pub is : IsScanOf batch.first batch.start as_of parts runs total

-- all that a source gave was read and may be answered over, and this is the total of the scans of its cut
abbrev pub IsScanOfAll : Reading → Option ℕ → ℕ → ScanTotalView → Type 0
IsScanOfAll reading as_of parts total =
    (runs : List (List ℕ)) × reading.all (concat runs) × reading.answerable (concat runs)
    × IsScanOf 0 0 as_of parts runs total

-- all that a source gave was read and may be answered over: it is this cut, or this is the total of its cut's scans
abbrev pub IsReadWhole : Reading → Option ℕ → ℕ → WholeSource → Type 0
IsReadWhole reading as_of parts (Short cut) = reading.all (concat cut) × reading.answerable (concat cut)
IsReadWhole reading as_of parts (Long total) = IsScanOfAll reading as_of parts total

-- what `next_batch` says of the source and of the reader, before and after it
pub record IsBatchRead {S : Type 0} (stream : SourceOf S) (before after : S) (old new : ReaderView)
    (read : Result Batch SourceFault) : Type 0 where
  pub next : IfOk read (IsNextBatch stream before after old new)
  pub same : (new.limit ≡ old.limit) × (new.target ≡ old.target)
  pub told : IfErr read (λ f. (first : S) (runs : List (List ℕ)) → IsReadTo stream first before runs old
      → IsSourceFault (of_stream stream old.limit old.target first after) f)
  pub failed : IsErrOf read SourceFault.ReadFailed ↔ (stream.has_failed after ≡ true)
