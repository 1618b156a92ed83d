-- What a source of bytes gave, what comes of reading a day from it, and what a `Counted` has.
-- To be believed.
use Rattle.std.specs.Prelude.{◌≡◌, ℕ, ◌+◌, ◌≤◌, Bool, true, false, List, length, Result, Ok, Err}
use Rattle.sources.specs.declared.counted.Counted.{Counted}
use Rattle.sources.specs.declared.day_reading.ReadFault.{ReadFault}
use Rattle.sources.specs.declared.day_reading.ReadFault.TheVariants.{ReadFailed, TooLong, OutOfMemory}
use Rattle.sources.specs.declared.source.Source.{Ghosts as SourceOf}

-- the reader that a counted source reads from, in its present state
abbrev pub reader_of : {R : Type 0} → Counted R → R
reader_of source = source.reader

-- a call of a counted source has failed
abbrev pub is_failed : {R : Type 0} → Counted R → Bool
is_failed source = source.failed

-- S is the states of a source, and `stream` the members of its `Source`: `stream.Gave` says which bytes it gave from
-- one state to a later one, `stream.HasEnded` that no byte is left, `stream.has_failed` that a call failed.
module _ {S : Type 0} (stream : SourceOf S) where
  -- the source gave some bytes, at most one more than the limit
  pub record GaveSome (limit : ℕ) (before after : S) : Type 0 where
    pub bytes : List ℕ
    pub gave : stream.Gave before after bytes
    pub within : length bytes ≤ limit + 1

  -- the source gave these bytes, no more than the limit, and has said that no byte is left
  pub record GaveAll (limit : ℕ) (before after : S) (day : List ℕ) : Type 0 where
    pub gave : stream.Gave before after day
    pub ended : stream.HasEnded after
    pub within : length day ≤ limit

  -- the source gave one byte more than the limit
  pub record GaveMore (limit : ℕ) (before after : S) : Type 0 where
    pub bytes : List ℕ
    pub gave : stream.Gave before after bytes
    pub more : length bytes ≡ limit + 1

  -- what `read_day` says of a source that had not failed, outcome by outcome: what it gave, and whether a call failed
  abbrev pub IsDayRead : ℕ → S → S → Result (List ℕ) ReadFault → Type 0
  -- the bytes that the source gave, up to its end and at most the limit, and no call failed
  IsDayRead limit before after (Ok day) = GaveAll limit before after day × (stream.has_failed after ≡ false)
  -- a call failed; until then the source gave at most the limit and a byte
  IsDayRead limit before after (Err ReadFailed) = GaveSome limit before after × (stream.has_failed after ≡ true)
  -- the source gave the limit and a byte, and no call failed
  IsDayRead limit before after (Err TooLong) = GaveMore limit before after × (stream.has_failed after ≡ false)
  -- the source gave at most the limit and a byte, and no call failed: of memory nothing
  IsDayRead limit before after (Err OutOfMemory) = GaveSome limit before after × (stream.has_failed after ≡ false)
