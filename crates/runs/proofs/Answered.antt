-- What the two pipelines give on threads comes of the scans of a cut.
use Rattle.std.proofs.Common.{◌≡◌, ℕ, ◌<◌, List, Result, Err, subst, ap, ◌∙◌}
use Rattle.std.specs.List.{concat}
use Rattle.row_types.specs.declared.directory.DirectoryRow.{DirectoryRow}
use Rattle.meaning.specs.Meaning.{Meaning}
use Rattle.outcomes.specs.declared.day_fault.DayFault.{DayFault}
use Rattle.answers.specs.Answers.{IsAnswer, IsAnswerToMessages}
use Rattle.day_rows.specs.Messages.{Placed}
use Rattle.gathering.specs.declared.linked.Linked.TheVariants.{Next, Halt}
use Rattle.pipelines.specs.Outcomes.{IsOutcome}
use Rattle.pipelines.specs.declared.outcome.Outcome.{Outcome}
use Rattle.pipelines.specs.declared.outcome.Outcome.TheVariants.{Finished, Stopped}
use Rattle.scanning.specs.Scans.{AreRuns, ScanTotalView, inputs_of, total_of}
use Rattle.scanning.specs.declared.wrong.WrongLength.{WrongLength}
use Rattle.buckets.specs.BucketRows.{BucketView}
use Rattle.buckets.specs.Buckets.{total_found}
use Rattle.buckets.specs.FoundRows.{TotalView}
use Rattle.planning.specs.AllBuckets.{AreGatheredOf}
use Rattle.planning.specs.Planned.{LinkView, linked_to}
use Rattle.planning.proofs.LinkedBuckets.{halt_of, next_of}
use Rattle.runs.specs.Made.{IsOutcomeOf}
use Rattle.runs.proofs.CutAnswers.{answered_by, gathered_by, halted_by, messages as messages_of, wrong_fault}

abbrev pub Pair : Type 0
Pair = Outcome TotalView (List DirectoryRow) WrongLength

-- the link by which all calls go on
abbrev pub link_of : Meaning → ℕ → LinkView
link_of query parts = record { query = query; parts = parts }

-- by this link a pair may give this for a first total of which this is known
abbrev pub IsGiven : (ScanTotalView → Type 0) → LinkView → Pair → Type 0
IsGiven IsFirst to = IsOutcome IsFirst (λ total linked. linked ≡ linked_to to total) (λ (inputs : List BucketView) (t : TotalView). t ≡ total_found inputs)

-- what a pair gives for the scans of a cut
pub given_of : {query : Meaning} {parts : ℕ} {runs : List (List ℕ)} {to : LinkView} {IsFirst : ScanTotalView → Type 0} (r : Pair)
    → IsGiven IsFirst to r → to ≡ link_of query parts → 0 < parts → AreRuns 0 runs
    → ((first : ScanTotalView) → IsFirst first → first ≡ total_of (inputs_of query.as_of parts runs)) → IsOutcomeOf query r runs
given_of {parts = parts} (Finished total kept) (first, inputs, is, links, found) linked some are scan = record {
  are = are;
  parts = parts;
  some = some;
  is = (first, inputs, scan first is, subst (λ (l : LinkView). Next inputs kept ≡ linked_to l first) linked links, found);
}
given_of {parts = parts} (Stopped stop) (first, is, links) linked some are scan = record {
  are = are;
  parts = parts;
  some = some;
  is = (first, scan first is, subst (λ (l : LinkView). Halt stop ≡ linked_to l first) linked links);
}

module _ {query : Meaning} {runs : List (List ℕ)} where
  -- no length is wrong: there are messages of which this was found, and what answers to them answers to the file
  pub finished : {total : TotalView} {kept : List DirectoryRow} → IsOutcomeOf query (Finished total kept) runs
      → (messages : List Placed) × AreGatheredOf query total kept messages
      × ((told : Result (List ℕ) DayFault) → IsAnswerToMessages messages query told → IsAnswer (concat runs) query told)
  finished {total} {kept} of =
      let (first, inputs, scan, linked, found) = of.is in
      let (right, buckets, names) = next_of (link_of query of.parts) _ (subst (λ (s : ScanTotalView). Next inputs kept ≡ linked_to (link_of query of.parts) s) scan linked) in (
        messages_of runs query of.parts,
        gathered_by runs query of.parts of.are total kept of.some (found ∙ ap total_found buckets) names,
        λ told. answered_by runs query of.parts of.are told right,
      )

  -- this length is wrong
  pub stopped : {stop : WrongLength} → IsOutcomeOf query (Stopped stop) runs → (told : Result (List ℕ) DayFault) → told ≡ Err (wrong_fault stop)
      → IsAnswer (concat runs) query told
  stopped {stop} of told said =
      let (first, scan, linked) = of.is in
      halted_by runs query of.parts of.are stop told
      (halt_of (link_of query of.parts) _ (subst (λ (s : ScanTotalView). Halt stop ≡ linked_to (link_of query of.parts) s) scan linked)) said
