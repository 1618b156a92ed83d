use Rattle.std.proofs.Common.{◌≡◌, ◌≤◌, ◌*◌, ◌^◌, false, length}
use Rattle.sinks.specs.TextParts.{texts_in, together}
use Rattle.sinks.proofs.shares.put_slowly.Given as goal

-- the parts so far were taken
abbrev pub invariant-loop-number : goal.invariant-loop-number
invariant-loop-number g l = record {
  took : g.K.Sink.Took l.fn.sink l.sink (together (texts_in (g.P.Parts.texts l.parts) l.first l.number));
  count : l.written ≡ length (together (texts_in (g.P.Parts.texts l.parts) l.first l.number));
  short : l.written ≤ l.number * 2 ^ 39;
  whole : g.K.Sink.has_failed l.sink ≡ false;
}
