use Rattle.std.proofs.Common.{◌≡◌}
use Rattle.pipelines.proofs.gatherers.gather_all.Given as goal

abbrev pub invariant-loop-piece : goal.invariant-loop-piece
invariant-loop-piece g l = l.gathering.inputs ≡ l.initial.gathering.inputs
