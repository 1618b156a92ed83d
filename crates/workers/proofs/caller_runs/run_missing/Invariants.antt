use Rattle.std.proofs.Common.{◌≡◌, ℕ, ◌<◌, true}
use Rattle.std.specs.FinSet.{contains}
use Rattle.workers.proofs.caller_runs.run_missing.Given as goal

abbrev pub invariant-loop-task : goal.invariant-loop-task
invariant-loop-task g l = record {
  inputs : l.gathering.inputs ≡ l.initial.gathering.inputs;
  covered : (t : ℕ) → t < l.task → contains l.gathering.covered t ≡ true;
  kept : (t : ℕ) → contains l.initial.gathering.covered t ≡ true → contains l.gathering.covered t ≡ true;
}
