-- What a run reads of its source, answers, and hands to its sink.
-- To be believed.
use Rattle.std.specs.Prelude.{◌≡◌, ℕ, ◌≤◌, ◌⊎◌, Bool, true, false, List, length, take, Some, Result, Ok, Err}
use Rattle.answers.specs.Answers.{DayFault, IsAnswer}
use Rattle.query.specs.Faults.{first_query_fault}
use Rattle.query.specs.Grammar.{Means}
use Rattle.meaning.specs.Meaning.{Meaning}
use Rattle.query.specs.Words.{lists_symbols, words_of}
use Rattle.sinks.specs.declared.sink.Sink.{Ghosts as SinkOf}
use Rattle.day_file.specs.Sources.{Reading}
use Rattle.outcomes.specs.declared.run_fault.RunFault.{RunFault}
use Rattle.outcomes.specs.declared.run_fault.RunFault.TheVariants as fault

-- the words mean a query
abbrev pub IsQuery : List ℕ → Type 0
IsQuery words = (query : Meaning) × Means (words_of words) query

-- all that the source had to give was read, it may be answered over, and this is the answer to the query over it
abbrev pub IsAnswered : Reading → Meaning → Result (List ℕ) DayFault → Type 0
IsAnswered reading query answer = (day : List ℕ) × reading.all day × reading.answerable day × IsAnswer day query answer

-- the words mean a query, and this is the answer to it over all that the source had to give
abbrev pub Answers : Reading → List ℕ → Result (List ℕ) DayFault → Type 0
Answers reading words answer = (query : Meaning) × Means (words_of words) query × IsAnswered reading query answer

-- what a call without a sink gives, as `answer_blocks` does: what tells the answer, or a refusal and what it says of
-- the source
abbrev pub IsAnsweredOrRefused : {T : Type 0} → (T → Result (List ℕ) DayFault)
    → Reading → Meaning → ℕ → Result T RunFault → Type 0
IsAnsweredOrRefused told reading query limit (Ok answer) = IsAnswered reading query (told answer)
IsAnsweredOrRefused told reading query limit (Err fault.ReadFailed) = reading.failed
IsAnsweredOrRefused told reading query limit (Err (fault.TooLong most)) = reading.longer × (most ≡ limit)
IsAnsweredOrRefused told reading query limit (Err fault.TooManyMorsels) = reading.too_many
IsAnsweredOrRefused told reading query limit (Err fault.OutOfMemory) = reading.some
IsAnsweredOrRefused told reading query limit (Err _) = ⊥

-- K is the states of a sink, `before` and `after` those that it had before and after the run, and `sink` the members
-- of its `Sink`: `sink.Took` says which bytes it took from one state to a later one, and `sink.HasFlushed` that it has
-- passed on what it took
module _ {K : Type 0} (sink : SinkOf K) where
  -- what comes of the answer that is handed to a sink. If it is a text, the sink took all of it and passed it on; or
  -- the sink failed, and took its first `written` bytes: perhaps none, perhaps all. If it is a fault of the day, that
  -- is reported, and the sink was left alone.
  abbrev pub IsHandedOver : (Result (List ℕ) DayFault → Type 0) → K → K → Result (Unit {0}) RunFault → Type 0
  IsHandedOver IsTheAnswer before after (Ok done) =
      (text : List ℕ) × IsTheAnswer (Ok text) × sink.Took before after text × sink.HasFlushed after
  IsHandedOver IsTheAnswer before after (Err (fault.WriteFailed written)) =
      (text : List ℕ) × IsTheAnswer (Ok text) × (written ≤ length text) × sink.Took before after (take written text)
  IsHandedOver IsTheAnswer before after (Err (fault.Day f)) = IsTheAnswer (Err f) × (after ≡ before)
  IsHandedOver IsTheAnswer before after (Err _) = ⊥

-- `reading` is what is known of the source, `words` are the bytes of the query's text, whose words `words_of` gives,
-- and `limit` is how many bytes a file may have, the one that `reading` speaks of
module _ {K : Type 0} (reading : Reading) (sink : SinkOf K) where
  -- what each outcome of a run says: the answer was handed over; or what the refusal says holds, and the sink was left
  -- alone. What a line says of the source is a field of `reading`: `of_stream` says what that means of a stream, and
  -- `of_blocks` of a file that is read at places. Of a file `untouched` and `some` say nothing, so `Query` and
  -- `OutOfMemory` say less of it; and `too_many` never holds, so it never has the outcome `TooManyMorsels`.
  abbrev pub Ran : List ℕ → ℕ → K → K → Result (Unit {0}) RunFault → Type 0
  -- the words have this first fault, and so mean no query (`meaning_or_fault`); and nothing was read of a stream
  Ran words limit before after (Err (fault.Query f)) =
      (first_query_fault (words_of words) ≡ Some f) × reading.untouched × (after ≡ before)
  -- a stream gave no more than the limit and a byte; that a call of it failed, the clause `read_failed` of `run` says.
  -- Of a file, a reading failed, if its source says which fail.
  Ran words limit before after (Err fault.ReadFailed) = IsQuery words × reading.failed × (after ≡ before)
  -- a stream gave the limit and a byte, a reading of a file gave a byte at the limit; and this is the limit
  Ran words limit before after (Err (fault.TooLong most)) =
      IsQuery words × reading.longer × (most ≡ limit) × (after ≡ before)
  -- all that a stream had to give was read, and has too many morsels; of a file that never holds
  Ran words limit before after (Err fault.TooManyMorsels) = IsQuery words × reading.too_many × (after ≡ before)
  -- `OutOfMemory` proves nothing about memory. Either the words list symbols, since reading others takes no memory, and
  -- nothing was read of a stream; or the words mean a query. In both cases a stream gave at most the limit and a byte.
  Ran words limit before after (Err fault.OutOfMemory) =
      (((lists_symbols (words_of words) ≡ true) × reading.untouched) ⊎ IsQuery words)
      × reading.some × (after ≡ before)
  -- `Ok`, `WriteFailed` and `Day` come of an answer: its text was written, or a part of it; or it is a fault of the day
  Ran words limit before after handed = IsHandedOver sink (Answers reading words) before after handed

-- the result says that the sink failed
abbrev pub is_write_failed : {T : Type 0} → Result T RunFault → Bool
is_write_failed (Err (fault.WriteFailed written)) = true
is_write_failed _ = false

-- the result says that the source failed
abbrev pub is_read_failed : {T : Type 0} → Result T RunFault → Bool
is_read_failed (Err fault.ReadFailed) = true
is_read_failed _ = false
