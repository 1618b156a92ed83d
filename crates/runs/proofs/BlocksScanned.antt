-- What the blocks of a source give is what the scans of a cut of its bytes do.
use Rattle.std.proofs.Common.{◌≡◌, ℕ, ◌<◌, List, Option, Result, Ok, Err, IfErr, IfOk, arith, refl, subst}
use Rattle.std.specs.List.{concat}
use Rattle.row_types.specs.declared.directory.DirectoryRow.{DirectoryRow}
use Rattle.meaning.specs.Meaning.{Meaning}
use Rattle.pipelines.specs.Outcomes.{IsOutcome}
use Rattle.pipelines.specs.declared.outcome.Outcome.{Outcome}
use Rattle.pipelines.specs.declared.outcome.Outcome.TheVariants.{Finished, Stopped}
use Rattle.gathering.specs.Totals.{IsTotal}
use Rattle.scanning.specs.Scans.{AreConsecutive, AreRuns, ScanTotalView, inputs_of, total_of}
use Rattle.scanning.specs.declared.wrong.WrongLength.{WrongLength}
use Rattle.buckets.specs.Buckets.{total_found}
use Rattle.buckets.specs.FoundRows.{TotalView}
use Rattle.planning.specs.Planned.{LinkView}
use Rattle.block_scan.specs.Attempts.{AreAttemptsOf, AreOf, AttemptView, BlockView, blocks_of}
use Rattle.block_scan.specs.Blocks.{GaveWhole, IsBlocksFault}
use Rattle.block_scan.specs.Pieces.{Asked, IsAskable, IsChained, IsScannedWhole}
use Rattle.block_scan.specs.declared.block_source.BlockSource.{Ghosts as BlockSourceOf}
use Rattle.day_file.specs.declared.source_fault.SourceFault.{SourceFault}
use Rattle.block_scan.proofs.BlocksAndAttempts.{attempts_of, blocks_are}
use Rattle.runs.specs.Made.{IsOutcomeOf}
use Rattle.runs.specs.Steps.{LinksAttempts, found_or_fault}
use Rattle.runs.proofs.Answered.{IsGiven, Pair, given_of, link_of}

-- the total of the scans of a file is that of one cut
pub of_cut : (as_of : Option ℕ) {parts : ℕ} {runs : List (List ℕ)} {total : ScanTotalView} → 0 < parts → AreRuns 0 runs
    → total ≡ total_of (inputs_of as_of parts runs) → IsTotal (λ inputs t. t ≡ total_of inputs) AreConsecutive total
of_cut as_of {parts} {runs} some runs_are is = (
  inputs_of as_of parts runs,
  record {
    first = 0;
    start = 0;
    runs = runs;
    each = runs_are.each;
    bytes = runs_are.bytes;
    within = runs_are.within;
    as_of = as_of;
    parts = parts;
    some = some;
    are = refl;
  },
  is,
)

module _ {S : Type 0} (device : BlockSourceOf S) (asked : Asked S) (asks : IsAskable asked.request) where
  runs_of : {at : ℕ} {total : ScanTotalView} (chained : IsChained device asked.source asked.request at total) → AreRuns 0 chained.runs
  runs_of chained = record { each = chained.each; bytes = chained.bytes; within = omega (arith, chained.at_is, chained.within, asks.limit) }

  -- a total of all that a source gave is that of the scans of some cut
  pub of_one_cut : {total : ScanTotalView} → IsScannedWhole device asked.source asked.request total
      → IsTotal (λ inputs t. t ≡ total_of inputs) AreConsecutive total
  of_one_cut (at, chained, ended) = of_cut asked.request.as_of asks.some (runs_of chained) chained.are

  module _ (query : Meaning) (same : asked.request.as_of ≡ query.as_of) where
    -- this comes of all that the source gave
    abbrev IsOfAll : Pair → Type 0
    IsOfAll r = (runs : List (List ℕ)) × GaveWhole device asked.request.limit asked.source (concat runs) × IsOutcomeOf query r runs

    -- what comes of a total of all that the source gave
    whole : {total : ScanTotalView} (r : Pair) → IsScannedWhole device asked.source asked.request total
        → IsGiven (λ (first : ScanTotalView). first ≡ total) (link_of query asked.request.parts) r → IsOfAll r
    whole {total} r (at, chained, ended) given = (
      chained.runs,
      record {
        gave = chained.gave;
        ended = subst (device.EndsAt asked.source) chained.at_is ended;
        within = omega (arith, chained.at_is, chained.within);
      },
      given_of r given refl asks.some (runs_of chained) (λ first is. rw (is, ← same) chained.are),
    )

    are : (count : ℕ) → 0 < count → {attempts : List (AttemptView S)} → AreOf (blocks_of asked.source asked.request count) attempts
        → AreAttemptsOf asked attempts
    are count some of = attempts_of _ _ (blocks_are asked.source asked.request count asks some) of

    module _ (count : ℕ) (some : 0 < count) where
      found : (o : Outcome TotalView (List DirectoryRow) (Result WrongLength SourceFault))
          → IsOutcome (AreOf (blocks_of asked.source asked.request count)) (LinksAttempts device (link_of query asked.request.parts))
          (λ inputs total. total ≡ total_found inputs) o
          → IfOk (found_or_fault o) IsOfAll × IfErr (found_or_fault o) (IsBlocksFault device asked.source asked.request.limit)
      found (Finished total kept) (first, inputs, of, links, is) =
          let (scans, scanned, linked) = links asked (are count some of) in (whole (Finished _ _) scanned (scans, inputs, refl, linked, is), tt)
      found (Stopped (Ok wrong)) (first, of, links) =
          let (scans, scanned, linked) = links asked (are count some of) in (whole (Stopped _) scanned (scans, refl, linked), tt)
      found (Stopped (Err fault)) (first, of, links) = (tt, links asked (are count some of))

      -- what both pipelines give over all blocks
      pub found_in_blocks : {blocks : List (BlockView S)} {link : LinkView} (outcome : Outcome TotalView (List DirectoryRow) (Result WrongLength SourceFault))
          {r : Result Pair SourceFault} → blocks ≡ blocks_of asked.source asked.request count → link ≡ link_of query asked.request.parts
          → IsOutcome (AreOf blocks) (LinksAttempts device link) (λ inputs total. total ≡ total_found inputs) outcome → r ≡ found_or_fault outcome
          → IfOk r IsOfAll × IfErr r (IsBlocksFault device asked.source asked.request.limit)
      found_in_blocks outcome all to given is = rw is (found outcome (rw (← all, ← to) given))
