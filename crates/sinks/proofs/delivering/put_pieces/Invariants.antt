use Rattle.std.proofs.Common.{◌≡◌, false, length, take}
use Rattle.sinks.specs.Written.{text_of}
use Rattle.sinks.proofs.delivering.put_pieces.Given as goal

-- the pieces so far were taken
abbrev pub invariant-loop-piece : goal.invariant-loop-piece
invariant-loop-piece g l = record {
  took : g.K.Sink.Took l.fn.sink l.sink (text_of (take l.piece-index l.pieces));
  count : l.written ≡ length (text_of (take l.piece-index l.pieces));
  whole : g.K.Sink.has_failed l.sink ≡ false;
}
