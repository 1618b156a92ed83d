-- What comes of a text that is written to a sink.
-- To be believed of a crate used by itself: a promise of the program says what its sink took.
use Rattle.std.specs.Prelude.{◌≡◌, ◌≤◌, ℕ, true, false, List, Vec, length, take, Result, Ok, Err}
use Rattle.std.specs.List.{flat_map}
use Rattle.sinks.specs.declared.delivering.WriteFailed.{WriteFailed}
use Rattle.sinks.specs.declared.sink.Sink.{Ghosts as SinkOf}

-- the text that pieces make, one after another
abbrev pub text_of : {Z : Type 0} → List (Vec ℕ Z) → List ℕ
text_of pieces = flat_map (λ piece. piece.items) pieces

-- what comes of a text that is written to a sink, whose members are `sink`: it took all of the text, and no call
-- failed; or a call failed, and it took the text's first `written` bytes, perhaps none, perhaps all
abbrev pub IsWritten : {K T : Type 0} → SinkOf K → K → K → List ℕ → Result T WriteFailed → Type 0
IsWritten sink before after text (Ok _) = sink.Took before after text × (sink.has_failed after ≡ false)
IsWritten sink before after text (Err refused) = (refused.written ≤ length text)
    × sink.Took before after (take refused.written text) × (sink.has_failed after ≡ true)
