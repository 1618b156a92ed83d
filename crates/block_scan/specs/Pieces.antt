-- What is known of pieces of a source that were read and scanned.
-- To be believed of a crate used by itself: a promise of the program speaks of the whole source alone.
use Rattle.std.specs.Prelude.{◌≡◌, ℕ, ◌+◌, ◌<◌, ◌≤◌, List, ◌++◌, length, All, Bool, false, Result, Ok, Err, IfOk, IfErr}
use Rattle.std.specs.List.{concat}
use Rattle.base.specs.declared.limits.TheConstants.{LONGEST_FILE, MOST_PARTITIONS}
use Rattle.base.specs.Among.{AreBytes}
use Rattle.day_file.specs.Cuts.{IsRun}
use Rattle.day_file.specs.Frames.{IsStuck, PlacedBody, StandsFrom}
use Rattle.scanning.specs.Scans.{ScanTotalView, inputs_of, scan_of, total_of}
use Rattle.block_scan.specs.Blocks.{IsBlocksFault}
use Rattle.day_file.specs.declared.source_fault.SourceFault.{SourceFault}
use Rattle.block_scan.specs.declared.scanned_block.ScannedBlock.{ScannedBlock}
use Rattle.block_scan.specs.declared.scanned_block.Tail.TheVariants.{Whole, Cut}
use Rattle.block_scan.specs.declared.request.Request.{Request}
use Rattle.block_scan.specs.declared.block_source.BlockSource.{Ghosts as BlockSourceOf}

-- the limit is no longer than a file may be, and the number of partitions is one that is allowed
pub record IsAskable (request : Request) : Type 0 where
  pub limit : request.limit ≤ LONGEST_FILE
  pub some : 0 < request.parts
  pub most : request.parts ≤ MOST_PARTITIONS

-- S is sources
module _ (S : Type 0) where
  -- a source, and what is asked of it
  pub record Asked : Type 0 where
    pub source : S
    pub request : Request

  -- what contracts see of pieces that were put together: of what they are, where they end, the total of their scans
  pub record ChainedView : Type 0 where
    pub asked : Asked
    pub at : ℕ
    pub total : ScanTotalView

-- S is sources, and `device` the members of their `BlockSource`
module _ {S : Type 0} (device : BlockSourceOf S) where
  -- a piece: bytes that were read from its start on, the scan of their frames, and, where it ended at no target, that
  -- the source ends there, or behind the rest, which begins with no whole frame
  pub record IsPiece (source : S) (request : Request) (piece : ScannedBlock) : Type 0 where
    pub frames : List PlacedBody
    pub bytes : List ℕ
    pub rest : List ℕ
    pub gave : device.GaveAt source piece.start (bytes ++ rest)
    pub stands : StandsFrom piece.start frames bytes
    pub are : AreBytes bytes
    pub end_is : piece.end ≡ piece.start + length bytes
    pub within : piece.end + length rest ≤ request.limit
    pub scan : piece.scanned ≡ scan_of request.parts request.as_of frames
    pub ended : piece.tail ≡ Whole → device.EndsAt source piece.end
    pub cut : piece.tail ≡ Cut → (0 < length rest) × IsStuck rest × device.EndsAt source (piece.end + length rest)

  -- what comes of a block: a piece, or why there is none
  abbrev pub IsTried : S → Request → Result ScannedBlock SourceFault → Type 0
  IsTried source request (Ok piece) = IsPiece source request piece
  IsTried source request (Err fault) = IsBlocksFault device source request.limit fault

  -- the total of the scans of runs of frames, which the source gave up to this place
  pub record IsChained (source : S) (request : Request) (at : ℕ) (total : ScanTotalView) : Type 0 where
    pub runs : List (List ℕ)
    pub each : All IsRun runs
    pub bytes : All AreBytes runs
    pub gave : device.GaveAt source 0 (concat runs)
    pub at_is : at ≡ length (concat runs)
    pub within : at ≤ request.limit
    pub are : total ≡ total_of (inputs_of request.as_of request.parts runs)

  -- the total of the scans of runs of frames, which are all that the source gave
  abbrev pub IsScannedWhole : S → Request → ScanTotalView → Type 0
  IsScannedWhole source request total = (at : ℕ) × IsChained source request at total × device.EndsAt source at

  -- a piece more was put to the others; where no more is to come, the source ends; a refusal says what it does
  pub record IsGoneOn (old new : ChainedView S) (result : Result Bool SourceFault) : Type 0 where
    pub asked : new.asked ≡ old.asked
    pub ended : IfOk result (λ more. more ≡ false → device.EndsAt new.asked.source new.at)
    pub fault : IfErr result (IsBlocksFault device old.asked.source old.asked.request.limit)
