-- The program's outcome: its status, and what it does to its devices.
-- To be believed.
use Rattle.std.specs.Prelude.{◌≡◌, ◌==◌, ◌<◌, ◌⊎◌, ℕ, true, false, List, length, Option, None, Some, MatchOption, Result, string_bytes}
use Rattle.arguments.specs.declared.arguments.Job.{Job}
use Rattle.sources.specs.Given.{is_failed, reader_of}
use Rattle.sources.specs.declared.counted.Counted.{Counted}
use Rattle.block_scan.specs.Blocks.{FileView, of_blocks}
use Rattle.block_scan.specs.declared.block_source.BlockSource.{Ghosts as BlockSourceOf}
use Rattle.day_file.specs.Sources.{Reading}
use Rattle.streaming.specs.Readings.{of_stream}
use Rattle.streaming.specs.declared.Source.{Ghosts as SourceOf}
use Rattle.runs.specs.Runs.{Ran, is_write_failed}
use Rattle.outcomes.specs.declared.run_fault.RunFault.{RunFault}
use Rattle.outcomes.specs.declared.run_fault.RunFault.TheVariants as fault
use Rattle.arguments.specs.Reports.{Reported, Told, status_of, status_of_outcome}
pub use Rattle.arguments.specs.Reports.{Device, device}

-- what is known of open files F: which length one tells, or that it tells none; what it gives as a stream; what it
-- gives at places; and what contracts see of it there
pub record OpenFiles (F : Type 0) : Type 1 where
  pub Tells : F → Option ℕ → Type 0
  pub stream : SourceOf (Counted F)
  pub blocks : BlockSourceOf FileView
  pub view : F → FileView

-- what the program did to its devices, and its status
module _ (job : Job) (out errors : Device) (status : ℕ) where
  -- given what is known of its source, the job did to its output what a run of its query does, and the output failed
  -- if and only if the outcome says so; the status is the outcome's, and the errors got the line of its fault, if any
  abbrev pub Did : Reading → Type 0
  Did reading =
      (outcome : Result (Unit {0}) RunFault)
      × Ran reading out.sink (string_bytes job.query) job.settings.limit out.before out.after outcome
      × (out.sink.has_failed out.after ≡ is_write_failed outcome)
      × (status ≡ status_of_outcome outcome)
      × Reported errors outcome

  -- the job was done over a stream, from one state of it to a later one, and the status says whether the stream failed
  abbrev pub DidStream : {S : Type 0} → SourceOf S → S → S → Type 0
  DidStream stream before after =
      Did (of_stream stream job.settings.limit job.settings.morsel before after)
      × (stream.has_failed after ≡ (status == status_of fault.ReadFailed))

  -- what is reported of a file that could not be opened: a failed reading, and the output was left alone
  abbrev pub DidNotOpen : Type 0
  DidNotOpen = Told errors status fault.ReadFailed × (out.after ≡ out.before)

  module _ {F : Type 0} (of : OpenFiles F) where
    -- the job was done over this file: at places if it told its length and the words give no size of morsels, and
    -- else as a stream, from the file as it was opened
    abbrev pub DidFile : F → Type 0
    DidFile file =
        ((job.morsel_given ≡ false) × (told : ℕ) × of.Tells file (Some told)
        × Did (of_blocks of.blocks job.settings.limit (of.view file)))
        ⊎ (((job.morsel_given ≡ true) ⊎ of.Tells file None)
        × (before : Counted F) × (after : Counted F) × (reader_of before ≡ file) × (is_failed before ≡ false)
        × DidStream of.stream before after)

    -- a file was opened, and the job was done over it, or none was, and that was told; `Opens` says what the opening
    -- gave
    abbrev pub DidOpened : (Option F → Type 0) → Type 0
    DidOpened Opens = (opened : Option F) × Opens opened × MatchOption opened DidNotOpen DidFile

-- what is known of a source that has these bytes, however it is read: an answer is one to them, and they are longer
-- than the limit if too long is reported
abbrev pub of_known : ℕ → List ℕ → Reading
of_known limit all = record {
  all = λ day. day ≡ all;
  answerable = λ day. Unit {0};
  some = Unit {0};
  longer = limit < length all;
  failed = Unit {0};
  too_many = Unit {0};
  untouched = Unit {0};
}
