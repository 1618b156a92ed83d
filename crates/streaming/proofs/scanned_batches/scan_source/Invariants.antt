use Rattle.std.proofs.Common.{◌≡◌, ◌+◌, ◌-◌, false, if◌then◌else◌}
use Rattle.streaming.specs.Batches.{read_length}
use Rattle.streaming.specs.ScannedSoFar.{IsScannedTo}
use Rattle.streaming.proofs.scanned_batches.scan_source.Given as goal

-- the batches before this one are scanned
abbrev pub invariant-loop-scanned : goal.invariant-loop-scanned
invariant-loop-scanned g l = record {
  to : IsScannedTo g.S.Source l.fn.settings.limit l.fn.settings.morsel l.as_of l.fn.settings.parts l.fn.source l.source
      l.scanned;
  fine : g.S.Source.has_failed l.source ≡ false;
}

abbrev pub decreases-loop-scanned : goal.decreases-loop-scanned
decreases-loop-scanned g l =
    if l.scanned.batch.is_last then 0 else (l.fn.settings.limit + 1) - read_length l.scanned.reader
