-- What is reported if there is no answer, or no job: on which device, and with which status.
-- To be believed.
use Rattle.std.specs.Prelude.{◌≡◌, ◌≤◌, ℕ, false, true, List, Result, Ok, Err, length, string_bytes, take}
use Rattle.arguments.specs.declared.arguments.WordsFault.{WordsFault}
use Rattle.arguments.specs.declared.arguments.WordsFault.TheVariants as words
use Rattle.outcomes.specs.declared.run_fault.RunFault.{RunFault}
use Rattle.outcomes.specs.declared.run_fault.RunFault.TheVariants as fault
use Rattle.sinks.specs.declared.sink.Sink.{Ghosts as SinkOf}
pub use Rattle.arguments.specs.FaultLines.{line_of, status_of}

-- an outcome's status
abbrev pub status_of_outcome : Result (Unit {0}) RunFault → ℕ
status_of_outcome (Ok done) = 0
status_of_outcome (Err f) = status_of f

-- a device that the program writes to: what its `Sink` says of its states, and those before and after
pub record Device : Type 1 where
  pub State : Type 0
  pub sink : SinkOf State
  pub before : State
  pub after : State

-- the device of a `Sink`, and two of its states
abbrev pub device : {State : Type 0} → SinkOf State → State → State → Device
device {State} sink before after = record { State = State; sink = sink; before = before; after = after }

-- the device took the whole text and passed it on, or it failed and took some of the text's first bytes: perhaps
-- none, perhaps all
pub record Delivered (to : Device) (text : List ℕ) : Type 0 where
  pub whole : to.sink.has_failed to.after ≡ false → to.sink.Took to.before to.after text × to.sink.HasFlushed to.after
  pub part : to.sink.has_failed to.after ≡ true → (count : ℕ) × to.sink.Took to.before to.after (take count text)

-- what an outcome leaves on the device for errors: the line of its fault, and nothing if there is no fault
abbrev pub Reported : Device → Result (Unit {0}) RunFault → Type 0
Reported errors (Ok done) = errors.after ≡ errors.before
Reported errors (Err f) = Delivered errors (line_of f)

-- what is reported of a fault: its line on the device for errors, and its status
abbrev pub Told : Device → ℕ → RunFault → Type 0
Told errors status f = (status ≡ status_of f) × Delivered errors (line_of f)

module _ (out errors : Device) (status : ℕ) where
  -- help or the version is delivered to the output, and the errors get nothing; if that fails, the output took the
  -- text's first `written` bytes, perhaps none or all, and a failed write is reported
  pub record Helped (text : List ℕ) : Type 0 where
    pub whole : out.sink.has_failed out.after ≡ false → (status ≡ 0) × (errors.after ≡ errors.before)
        × out.sink.Took out.before out.after text × out.sink.HasFlushed out.after
    pub part : out.sink.has_failed out.after ≡ true → (written : ℕ) × (written ≤ length text)
        × out.sink.Took out.before out.after (take written text) × Told errors status (fault.WriteFailed written)

  -- help and the version go to the output, and what is wrong goes to the errors; out of memory is reported as the fault
  -- that it is; the output takes nothing else
  abbrev pub Explained : WordsFault → Type 0
  Explained (words.Help text) = Helped (string_bytes text)
  Explained (words.Version text) = Helped (string_bytes text)
  Explained (words.Wrong text) = (status ≡ 2) × Delivered errors (string_bytes text) × (out.after ≡ out.before)
  Explained words.Memory = Told errors status fault.OutOfMemory × (out.after ≡ out.before)
