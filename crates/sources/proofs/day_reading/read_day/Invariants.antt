use Rattle.std.proofs.Common.{◌≡◌, ◌≤◌, ◌+◌, ◌-◌, false, vec_len}
use Rattle.sources.proofs.day_reading.read_day.Given as goal

abbrev pub invariant-loop-bytes : goal.invariant-loop-bytes
invariant-loop-bytes g l = record {
  gave : g.S.Source.Gave l.initial.source l.source l.bytes.items;
  fine : g.S.Source.has_failed l.source ≡ false;
  within : vec_len l.bytes ≤ l.limit + 1;
}

abbrev pub decreases-loop-bytes : goal.decreases-loop-bytes
decreases-loop-bytes g l = l.limit + 1 - vec_len l.bytes
