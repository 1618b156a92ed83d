use Rattle.std.proofs.Common.{◌≡◌}
use Rattle.pipelines.proofs.gatherers.gather_until_covered.Given as goal

abbrev pub invariant-loop : goal.invariant-loop
invariant-loop g l = l.gathering.inputs ≡ l.initial.gathering.inputs
