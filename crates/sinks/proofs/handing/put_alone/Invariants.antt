use Rattle.std.proofs.Common.{◌≡◌, ◌≤◌, ◌+◌, ◌*◌, ◌^◌, false, length}
use Rattle.sinks.proofs.TextParts.{so_far}
use Rattle.sinks.proofs.handing.put_alone.Given as goal

-- the header and the parts so far were taken
abbrev pub invariant-loop-part : goal.invariant-loop-part
invariant-loop-part g l = record {
  took : g.K.Sink.Took l.fn.sink l.sink (so_far l.header (g.P.Parts.texts l.parts) l.part);
  count : l.written ≡ length (so_far l.header (g.P.Parts.texts l.parts) l.part);
  short : l.written ≤ 2 ^ 32 + l.part * 2 ^ 39;
  whole : g.K.Sink.has_failed l.sink ≡ false;
}
