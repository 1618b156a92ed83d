use Rattle.std.proofs.Common.{◌≡◌, ℕ, List, Option, Some, None, length, refl, sym, ◌∙◌}
use Rattle.std.specs.Option.{option_map_or}
use Rattle.row_types.specs.declared.directory.DirectoryRow.{DirectoryRow}
use Rattle.meaning.specs.Meaning.{Meaning}
use Rattle.gathering.specs.declared.linked.Linked.TheVariants.{Next, Halt}
use Rattle.pipelines.specs.Outcomes.{IsOutcome, outcome_of}
use Rattle.pipelines.specs.declared.outcome.Outcome.{Outcome}
use Rattle.pipelines.proofs.OneOutcome.{one_outcome}
use Rattle.schedules.specs.Rehearsals.{IsRehearsed, after_link}
use Rattle.schedules.specs.Schedules.{first_left}
use Rattle.schedules.specs.declared.event.Event.{Event}
use Rattle.schedules.specs.declared.rehearsed.Rehearsed.{Rehearsed}
use Rattle.schedules.specs.declared.rehearsed.Rehearsed.TheVariants.{Finished, Missing}
use Rattle.schedules.proofs.OneRehearsed.{one_rehearsed}
use Rattle.scanning.specs.Scans.{ScanInputView, ScanTotalView, inputs_of, total_of}
use Rattle.scanning.specs.declared.wrong.WrongLength.{WrongLength}
use Rattle.buckets.specs.BucketRows.{BucketView}
use Rattle.buckets.specs.Buckets.{total_found}
use Rattle.buckets.specs.FoundRows.{TotalView}
use Rattle.planning.specs.Planned.{ToBuckets, linked_to}
use Rattle.executor.specs.Outcomes.{GaveTheSame}
use Rattle.pipelines.specs.declared.outcome.Outcome.TheVariants as outcome
use Rattle.executor.proofs.outcome_law.one_outcome_of_a_cut.Goals as goal

module _ (query : Meaning) (parts : ℕ) (runs : List (List ℕ)) where
  abbrev inputs : List ScanInputView
  inputs = inputs_of query.as_of parts runs

  abbrev linked : ScanTotalView → ToBuckets
  linked = linked_to (record { query = query; parts = parts })

  abbrev IsTheTotal : List BucketView → TotalView → Type 0
  IsTheTotal buckets total = total ≡ total_found buckets

  -- the outcome is a function of the cut, the query and the number of partitions
  outcome_is : (given : Outcome TotalView (List DirectoryRow) WrongLength)
      → IsOutcome (λ total. total ≡ total_of inputs) (λ total l. l ≡ linked total) IsTheTotal given → given ≡ outcome_of total_found (linked (total_of inputs))
  outcome_is = one_outcome _ _ _ (total_of inputs) linked total_found (λ first is. is) (λ first l is links. links) (λ buckets total is. is)

  outcomes_are_one : (one other : Outcome TotalView (List DirectoryRow) WrongLength)
      → IsOutcome (λ total. total ≡ total_of inputs) (λ total l. l ≡ linked total) IsTheTotal one
      → IsOutcome (λ total. total ≡ total_of inputs) (λ total l. l ≡ linked total) IsTheTotal other → one ≡ other
  outcomes_are_one one other is is' = outcome_is one is ∙ sym (outcome_is other is')

  module _ (gatherers : ℕ) (events1 events2 : List Event) where
    second : (left : Option ℕ) (total : TotalView) (kept : List DirectoryRow)
        → GaveTheSame {S = WrongLength} (option_map_or (λ task. Missing 2 task) left (Finished total kept)) (outcome.Finished total kept)
    second (Some task) total kept = tt
    second None total kept = refl

    both : (left : Option ℕ) (l : ToBuckets)
        → GaveTheSame (option_map_or (λ task. Missing 1 task) left (after_link total_found gatherers events2 l)) (outcome_of total_found l)
    both (Some task) l = tt
    both None (Next buckets kept) = second (first_left gatherers (length buckets) events2) (total_found buckets) kept
    both None (Halt stop) = refl

    schedules_give_it : (given : Outcome TotalView (List DirectoryRow) WrongLength) (rehearsed : Rehearsed TotalView (List DirectoryRow) WrongLength)
        → IsOutcome (λ total. total ≡ total_of inputs) (λ total l. l ≡ linked total) IsTheTotal given
        → IsRehearsed (length inputs) (λ total. total ≡ total_of inputs) (λ total l. l ≡ linked total) IsTheTotal gatherers events1 events2 rehearsed
        → GaveTheSame rehearsed given
    schedules_give_it given rehearsed is came =
        rw (
          outcome_is given is,
          one_rehearsed (length inputs) _ _ _ gatherers events1 events2 (total_of inputs) linked total_found
              (λ first is. is) (λ first l is links. links) (λ buckets total is. is) rehearsed came,
        )
        (both (first_left gatherers (length inputs) events1) (linked (total_of inputs)))

pub returns-clause-threads : goal.returns-clause-threads
returns-clause-threads c = outcomes_are_one

pub returns-clause-schedules : goal.returns-clause-schedules
returns-clause-schedules c = λ query parts runs gatherers events1 events2. schedules_give_it query parts runs gatherers events1 events2
