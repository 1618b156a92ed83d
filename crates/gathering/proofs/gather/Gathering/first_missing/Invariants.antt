use Rattle.std.proofs.Common.{◌≡◌, ℕ, ◌<◌, true}
use Rattle.std.specs.FinSet.{contains}
use Rattle.gathering.proofs.gather.Gathering.first_missing.Given as goal

-- each task before this one is covered
abbrev pub invariant-loop-task : goal.invariant-loop-task
invariant-loop-task g l = (k : ℕ) → k < l.task → contains l.self.covered k ≡ true
