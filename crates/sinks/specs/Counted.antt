-- What the sinks hold.
-- To be believed.
use Rattle.std.specs.Prelude.{ℕ, Bool, List}
use Rattle.sinks.specs.declared.counted_sink.CountedSink.{CountedSink}
use Rattle.sinks.specs.declared.collected.Collected.{Collected}

-- the writer that a counted sink writes to
abbrev pub writer_of : {W : Type 0} → CountedSink W → W
writer_of sink = sink.writer

-- a call of a counted sink has failed
abbrev pub is_failed : {W : Type 0} → CountedSink W → Bool
is_failed sink = sink.failed

-- the bytes that a collecting sink has taken
abbrev pub bytes_of : {A : Type 0} → Collected A → List ℕ
bytes_of sink = sink.bytes.items

-- a call of a collecting sink has failed
abbrev pub is_full : {A : Type 0} → Collected A → Bool
is_full sink = sink.failed
