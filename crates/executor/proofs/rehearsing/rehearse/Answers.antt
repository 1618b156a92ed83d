use Rattle.std.proofs.Common.{◌≡◌, ℕ, ◌<◌, List, Err, length, ap, ◌∙◌, inl, inr, subst, sym}
use Rattle.std.specs.declared.alloc.Global.{Global}
use Rattle.std.proofs.lemmas.List.{length-map}
use Rattle.std.proofs.lemmas.List.FromFn.{length-map-range_with_len}
use Rattle.row_types.specs.declared.directory.DirectoryRow.{DirectoryRow}
use Rattle.day_file.specs.Cuts.{MorselView}
use Rattle.day_file.specs.Kept.{numbered}
use Rattle.meaning.specs.Meaning.{Meaning}
use Rattle.answers.specs.Answers.{IsAnswerToMessages, told_by}
use Rattle.answers.specs.declared.answer.Answer.{Answer}
use Rattle.schedules.specs.Rehearsals.{IsRehearsed as IsRehearsedPair, Next}
use Rattle.schedules.specs.declared.event.Event.{Event}
use Rattle.schedules.specs.declared.rehearsed.Rehearsed.{Rehearsed}
use Rattle.scanning.specs.Scans.{AreRuns, ScanInputView, ScanTotalView, inputs_of, total_of}
use Rattle.scanning.specs.declared.wrong.WrongLength.{WrongLength}
use Rattle.day_file.proofs.Kept.{length-numbered}
use Rattle.buckets.specs.BucketRows.{BucketView}
use Rattle.buckets.specs.Buckets.{total_found}
use Rattle.buckets.specs.FoundRows.{TotalView}
use Rattle.planning.specs.AllBuckets.{AreGatheredOf}
use Rattle.planning.specs.Planned.{LinkView, linked_to, planned_bucket}
use Rattle.planning.proofs.LinkedBuckets.{halt_of, next_of}
use Rattle.executor.specs.Rehearsals.{IsRehearsed}
use Rattle.runs.proofs.CutAnswers.{answered_by, buckets, frames, gathered_by, halted_by, messages, right_frames, scan, stands, wrong_fault, wrong_frame}
use Rattle.schedules.specs.declared.rehearsed.Rehearsed.TheVariants as pair
use Rattle.executor.specs.declared.rehearsing.Rehearsal.TheVariants as rehearsal
use Rattle.executor.proofs.rehearsing.rehearse.Goals as goal

abbrev Pair : Type 0
Pair = Rehearsed TotalView (List DirectoryRow) WrongLength

module _ (runs : List (List ℕ)) (query : Meaning) (parts gatherers : ℕ) (events1 events2 : List Event) where
  abbrev scanned : ScanTotalView
  scanned = scan runs query parts

  abbrev link : LinkView
  link = record { query = query; parts = parts }

  -- what a rehearsal makes of what the two pipelines gave
  abbrev Told : Pair → Type 0
  Told (pair.Finished total kept) = AreGatheredOf query total kept (messages runs query parts)
      × ((answer : Answer Global) → IsAnswerToMessages (messages runs query parts) query (told_by answer)
      → IsRehearsed runs query parts gatherers events1 events2 (rehearsal.Finished answer))
  Told (pair.Stopped stop) = (answer : Answer Global) → told_by answer ≡ Err (wrong_fault stop)
      → IsRehearsed runs query parts gatherers events1 events2 (rehearsal.Finished answer)
  Told (pair.Missing pipeline task) = IsRehearsed runs query parts gatherers events1 events2 (rehearsal.Missing pipeline task)

  module _ (are : AreRuns 0 runs) (some : 0 < parts) where
    as_many : length (buckets runs query parts) ≡ parts
    as_many = length-map-range_with_len (planned_bucket query scanned.morsels) 0 parts

    told : (r : Pair) → IsRehearsedPair (length runs) (λ (first : ScanTotalView). first ≡ scanned) (λ total linked. linked ≡ linked_to link total)
        (λ (seconds : List BucketView) (t : TotalView). t ≡ total_found seconds) gatherers events1 events2 r
        → Told r
    told (pair.Missing pipeline task) (inl (number, left)) = record {
      frames = frames runs query parts;
      stand = stands runs query parts are;
      is = rw left (ap (λ p. rehearsal.Missing p task) number);
    }
    told (pair.Missing pipeline task) (inr (number, none, (first, inputs, kept, is, linked, left))) =
        let next = next_of link scanned (rw is at linked) in record {
          frames = frames runs query parts;
          stand = stands runs query parts are;
          is = rw (none, right_frames runs query parts next.0, rw (next.1, as_many) at left) (ap (λ p. rehearsal.Missing p task) number);
        }
    told (pair.Finished total kept) (none, (first, inputs, is, linked, left, of)) =
        let next = next_of link scanned (rw is at linked) in (
          gathered_by runs query parts are total kept some (of ∙ ap total_found next.1) next.2,
          λ answer answers. record {
            frames = frames runs query parts;
            stand = stands runs query parts are;
            is = rw (none, right_frames runs query parts next.0, rw (next.1, as_many) at left)
                (answered_by runs query parts are (told_by answer) next.0 answers);
          },
        )
    told (pair.Stopped stop) (none, (first, is, linked)) = λ answer said.
        let wrong = halt_of link scanned (rw is at linked) in let frame = wrong_frame runs query parts stop wrong in record {
          frames = frames runs query parts;
          stand = stands runs query parts are;
          is = rw (none, frame.1) (halted_by runs query parts are stop (told_by answer) wrong said);
        }

    tasks : length (inputs_of query.as_of parts runs) ≡ length runs
    tasks =
        length-map (numbered 0 0 runs) (λ (morsel : MorselView). record { morsel = morsel; as_of = query.as_of; parts = parts })
        ∙ length-numbered 0 0 runs

    -- by what the calls say of their inputs and of the link
    rehearsed : {inputs : List ScanInputView} {meant : Meaning} {to : LinkView} {r s : Pair} → inputs ≡ inputs_of meant.as_of parts runs → meant ≡ query
        → to ≡ link → IsRehearsedPair (length inputs) (λ (first : ScanTotalView). first ≡ total_of inputs) (λ total linked. linked ≡ linked_to to total)
        (λ (seconds : List BucketView) (t : TotalView). t ≡ total_found seconds) gatherers events1 events2 r
        → r ≡ s → Told s
    rehearsed same meant linked is gave = subst Told gave (told _ (rw (same, meant, linked, tasks) at is))

pub answer_of_total-requires : goal.answer_of_total-requires
answer_of_total-requires c = let scan = c.in_ok-scan_inputs.ensures in
    let told = rehearsed c.args.cut.now c.args.query.now c.args.parts c.args.gatherers c.args.events1.now c.args.events2.now
    scan.runs c.requires.parts.0 (c.in_ok-inputs.ensures.ok ∙ scan.inputs) c.query.view_is
    c.new-link.ensures c.in_ok-total.ensures c.in-Finished.is in
    record { gathered = (messages c.args.cut.now c.args.query.now c.args.parts, told.0) }

pub returns-in_ok-answer-in-Finished : goal.returns-in_ok-answer-in-Finished
returns-in_ok-answer-in-Finished c = let scan = c.in_ok-scan_inputs.ensures in
    let told = rehearsed c.args.cut.now c.args.query.now c.args.parts c.args.gatherers c.args.events1.now c.args.events2.now
    scan.runs c.requires.parts.0 (c.in_ok-inputs.ensures.ok ∙ scan.inputs) c.query.view_is
    c.new-link.ensures c.in_ok-total.ensures c.in-Finished.is in
    told.1 c.in_ok-answer-in-Finished.answer (c.in_ok-answer-in-Finished.ensures (messages c.args.cut.now c.args.query.now c.args.parts) told.0)

pub returns-in-Stopped : goal.returns-in-Stopped
returns-in-Stopped c = let scan = c.in_ok-scan_inputs.ensures in
    rehearsed c.args.cut.now c.args.query.now c.args.parts c.args.gatherers c.args.events1.now c.args.events2.now
    scan.runs c.requires.parts.0 (c.in_ok-inputs.ensures.ok ∙ scan.inputs) c.query.view_is
    c.new-link.ensures c.in_ok-total.ensures c.in-Stopped.is c.told_of.result c.told_of.ensures

pub returns-in-Missing : goal.returns-in-Missing
returns-in-Missing c = let scan = c.in_ok-scan_inputs.ensures in
    rehearsed c.args.cut.now c.args.query.now c.args.parts c.args.gatherers c.args.events1.now c.args.events2.now
    scan.runs c.requires.parts.0 (c.in_ok-inputs.ensures.ok ∙ scan.inputs) c.query.view_is
    c.new-link.ensures c.in_ok-total.ensures c.in-Missing.is
