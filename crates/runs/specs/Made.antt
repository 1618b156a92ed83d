-- What both pipelines found, what it tells, and what comes of it once it is handed over.
-- To be believed of a crate used by itself: what is promised of a run is `Ran`.
use Rattle.std.specs.Prelude.{◌≡◌, ℕ, ◌<◌, List, Result, Ok, Err}
use Rattle.outcomes.specs.declared.run_fault.RunFault.{RunFault}
use Rattle.outcomes.specs.declared.run_fault.RunFault.TheVariants as fault
use Rattle.sinks.specs.declared.sink.Sink.{Ghosts as SinkOf}
use Rattle.pipelines.specs.Outcomes.{IsOutcome}
use Rattle.pipelines.specs.declared.outcome.Outcome.{Outcome}
use Rattle.row_types.specs.declared.directory.DirectoryRow.{DirectoryRow}
use Rattle.row_types.specs.declared.trade.Sale.{Sale}
use Rattle.time_and_sales.specs.Names.{name_of}
use Rattle.meaning.specs.Meaning.{Meaning}
use Rattle.answers.specs.Answers.{DayFault}
use Rattle.scanning.specs.Scans.{AreRuns, inputs_of, total_of}
use Rattle.scanning.specs.declared.wrong.WrongLength.{WrongLength}
use Rattle.buckets.specs.Buckets.{total_found}
use Rattle.buckets.specs.FoundRows.{TotalView}
use Rattle.planning.specs.AllBuckets.{AreProductsOf, text_of_products}
use Rattle.planning.specs.Planned.{linked_to}
use Rattle.runs.specs.Runs.{IsHandedOver}
use Rattle.runs.specs.declared.calls.made.Made.{Made}
use Rattle.runs.specs.declared.calls.made.Made.TheVariants.{Faulty, Listed}

-- the fault, or the text of what is listed
abbrev pub told : Made → Result (List ℕ) DayFault
told (Faulty fault) = Err fault
told (Listed day) = Ok (text_of_products day.what (name_of day.names) day.total.products)

-- what is listed is what some lists of sales give
abbrev pub IsReady : Made → Type 0
IsReady (Faulty fault) = Unit {0}
IsReady (Listed day) = (lists : List (List Sale)) × AreProductsOf day.what lists day.total.products

-- both pipelines gave this over a file that is cut into these runs, in some number of partitions
pub record IsOutcomeOf (query : Meaning) (outcome : Outcome TotalView (List DirectoryRow) WrongLength)
    (runs : List (List ℕ)) : Type 0 where
  pub are : AreRuns 0 runs
  pub parts : ℕ
  pub some : 0 < parts
  pub is : IsOutcome (λ total. total ≡ total_of (inputs_of query.as_of parts runs))
      (λ total linked. linked ≡ linked_to (record { query = query; parts = parts }) total)
      (λ inputs total. total ≡ total_found inputs) outcome

-- K is the states of a sink, as in `IsHandedOver`
module _ {K : Type 0} (sink : SinkOf K) where
  -- an answer was handed over; or there was no memory to begin with, and the sink was left alone
  abbrev pub IsHandedOrRefused : (Result (List ℕ) DayFault → Type 0) → K → K → Result (Unit {0}) RunFault → Type 0
  IsHandedOrRefused IsTheAnswer before after (Err fault.OutOfMemory) = after ≡ before
  IsHandedOrRefused IsTheAnswer before after outcome = IsHandedOver sink IsTheAnswer before after outcome
