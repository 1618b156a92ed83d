use Rattle.std.proofs.Common.{◌≡◌}
use Rattle.executor.proofs.Steps.{IsCollecting}
use Rattle.executor.proofs.answering.collect.Given as goal

-- the frames so far have right lengths, and have given their rows
abbrev pub invariant-loop-frame : goal.invariant-loop-frame
invariant-loop-frame g l = record {
  so_far : IsCollecting l.fn.as_of l.initial.left.frames l.left.frames l.rows;
  end : l.left.truncated ≡ l.initial.left.truncated;
}
