-- What is known of a source after it was read, whichever kind of source it is.
-- To be believed.
use Rattle.std.specs.Prelude.{ℕ, List}
use Rattle.day_file.specs.Frames.{IsTruncatedAt}
use Rattle.day_file.specs.declared.source_fault.SourceFault.{SourceFault}
use Rattle.day_file.specs.declared.source_fault.SourceFault.TheVariants as fault
use Rattle.sources.specs.declared.day_reading.ReadFault.{ReadFault}
use Rattle.sources.specs.declared.day_reading.ReadFault.TheVariants as read

-- what is known of a source after a run: a field for each thing that an outcome of a run may say of it. The comment
-- of a field says what it is for; each kind of source says what it means there (`of_stream`, `of_blocks`), and that
-- may be less.
pub record Reading : Type 1 where
  -- all that the source had to give, which isn't more than the limit, was read, and is these bytes
  pub all : List ℕ → Type 0
  -- these bytes may be answered over: they don't have too many morsels, or they are truncated
  pub answerable : List ℕ → Type 0
  -- it was read in part, whole or not at all: what is known of what it gave
  pub some : Type 0
  -- it gave more than the limit
  pub longer : Type 0
  -- what is known if a failed call of it is reported
  pub failed : Type 0
  -- all that it had to give was read, and has too many morsels
  pub too_many : Type 0
  -- nothing was read of it
  pub untouched : Type 0

-- what each refusal of a source says of it. What is truncated may be answered over: that it is truncated is the answer.
-- Out of memory says only what is known of a source however much of it was read.
abbrev pub IsSourceFault : Reading → SourceFault → Type 0
IsSourceFault reading fault.ReadFailed = reading.failed
IsSourceFault reading fault.TooLong = reading.longer
IsSourceFault reading (fault.Truncated place) =
    (day : List ℕ) × reading.all day × reading.answerable day × IsTruncatedAt day place
IsSourceFault reading fault.TooManyMorsels = reading.too_many
IsSourceFault reading fault.OutOfMemory = reading.some

-- the fault of a source that could not be read
abbrev pub source_fault_of : ReadFault → SourceFault
source_fault_of read.ReadFailed = fault.ReadFailed
source_fault_of read.TooLong = fault.TooLong
source_fault_of read.OutOfMemory = fault.OutOfMemory
