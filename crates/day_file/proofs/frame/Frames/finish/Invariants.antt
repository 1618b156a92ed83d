use Rattle.std.proofs.Common.{◌≡◌}
use Rattle.day_file.proofs.frame.Frames.finish.Given as goal

abbrev pub invariant-loop : goal.invariant-loop
invariant-loop l = l.self.truncated ≡ l.initial.self.truncated
