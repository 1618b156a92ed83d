-- The steps of a run: what its pipelines and its text give each other.
-- Derived: what is promised of a run is `Ran`.
use Rattle.std.specs.Prelude.{◌≡◌, List, Result, Ok, Err}
use Rattle.outcomes.specs.declared.run_fault.RunFault.{RunFault}
use Rattle.outcomes.specs.declared.run_fault.RunFault.TheVariants as fault
use Rattle.std.specs.declared.alloc.AllocError.{AllocError}
use Rattle.sinks.specs.declared.delivering.WriteFailed.{WriteFailed}
use Rattle.gathering.specs.declared.linked.Linked.{Linked}
use Rattle.gathering.specs.declared.linked.Linked.TheVariants.{Next, Halt}
use Rattle.pipelines.specs.declared.outcome.Outcome.{Outcome}
use Rattle.pipelines.specs.declared.outcome.Outcome.TheVariants.{Finished, Stopped}
use Rattle.day_file.specs.declared.source_fault.SourceFault.{SourceFault}
use Rattle.row_types.specs.declared.directory.DirectoryRow.{DirectoryRow}
use Rattle.scanning.specs.Scans.{ScanTotalView}
use Rattle.scanning.specs.declared.wrong.WrongLength.{WrongLength}
use Rattle.block_scan.specs.Attempts.{AreAttemptsOf, AttemptView}
use Rattle.block_scan.specs.Blocks.{IsBlocksFault}
use Rattle.block_scan.specs.Pieces.{Asked, IsScannedWhole}
use Rattle.block_scan.specs.declared.block_source.BlockSource.{Ghosts as BlockSourceOf}
use Rattle.buckets.specs.BucketRows.{BucketView}
use Rattle.planning.specs.Planned.{LinkView, ToBuckets, linked_to}

-- what comes of a text that is written, or refused for want of memory
abbrev pub outcome_of : Result (Result (Unit {0}) WriteFailed) AllocError → Result (Unit {0}) RunFault
outcome_of (Ok (Ok done)) = Ok done
outcome_of (Ok (Err refused)) = Err (fault.WriteFailed refused.written)
outcome_of (Err none) = Err fault.OutOfMemory

-- S is sources that are read at places
module _ {S : Type 0} (device : BlockSourceOf S) where
  -- some total of all that the source gave is linked to this
  abbrev IsLinkedWhole : Asked S → LinkView → ToBuckets → Type 0
  IsLinkedWhole asked link linked =
      (total : ScanTotalView)
      × IsScannedWhole device asked.source asked.request total × (linked ≡ linked_to link total)

  -- what the attempts at all blocks are linked to: why the source gives no rows, or what a total of all it gave is
  abbrev pub IsLinked : Asked S → LinkView
      → Linked (List BucketView) (List DirectoryRow) (Result WrongLength SourceFault) → Type 0
  IsLinked asked link (Halt (Err fault)) = IsBlocksFault device asked.source asked.request.limit fault
  IsLinked asked link (Halt (Ok wrong)) = IsLinkedWhole asked link (Halt wrong)
  IsLinked asked link (Next inputs kept) = IsLinkedWhole asked link (Next inputs kept)

  -- what attempts are linked to, whichever source and request they are of
  abbrev pub LinksAttempts : LinkView → List (AttemptView S)
      → Linked (List BucketView) (List DirectoryRow) (Result WrongLength SourceFault) → Type 0
  LinksAttempts link attempts linked = (asked : Asked S) → AreAttemptsOf asked attempts → IsLinked asked link linked

-- what both pipelines found over the blocks of a source, or why it gives no rows
abbrev pub found_or_fault : {T K W F : Type 0} → Outcome T K (Result W F) → Result (Outcome T K W) F
found_or_fault (Finished total kept) = Ok (Finished total kept)
found_or_fault (Stopped (Ok wrong)) = Ok (Stopped wrong)
found_or_fault (Stopped (Err f)) = Err f
