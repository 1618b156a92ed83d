use Rattle.std.proofs.Common.{◌-◌, ◌≡◌, ◌≤◌, ◌^◌, ◌+◌, ◌*◌, false, length}
use Rattle.sinks.specs.Followed.{Follow}
use Rattle.sinks.proofs.TextParts.{so_far}
use Rattle.sinks.proofs.handing.put_in.Given as goal

-- the header and the parts so far were taken, and threads make those behind
abbrev pub invariant-loop-ahead : goal.invariant-loop-ahead
invariant-loop-ahead g l = record {
  parts : l.ahead.parts.now ≡ l.parts;
  follow : Follow l.ahead.parts.now l.ahead.done l.ahead.threads.items l.ahead.next;
  within : l.ahead.next ≤ l.all;
  took : g.K.Sink.Took l.fn.sink l.sink (so_far l.header (g.P.Parts.texts l.parts) l.ahead.done);
  count : l.written ≡ length (so_far l.header (g.P.Parts.texts l.parts) l.ahead.done);
  short : l.written ≤ 2 ^ 32 + l.ahead.done * 2 ^ 39;
  done : l.ahead.done ≤ l.all;
  whole : g.K.Sink.has_failed l.sink ≡ false;
}

abbrev pub decreases-loop-ahead : goal.decreases-loop-ahead
decreases-loop-ahead g l = l.all - l.ahead.done
