use Rattle.std.proofs.Common.{◌≡◌, ◌≤◌, ◌-◌, length, take, false}
use Rattle.sinks.proofs.delivering.put_all.Given as goal

-- what was taken so far is the text's front
abbrev pub invariant-loop-written : goal.invariant-loop-written
invariant-loop-written g l = record {
  within : l.written ≤ length l.text;
  took : g.K.Sink.Took l.fn.sink l.sink (take l.written l.text);
  whole : g.K.Sink.has_failed l.sink ≡ false;
}

abbrev pub decreases-loop-written : goal.decreases-loop-written
decreases-loop-written g l = length l.text - l.written
