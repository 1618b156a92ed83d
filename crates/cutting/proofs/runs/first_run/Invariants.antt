use Rattle.cutting.proofs.FirstRuns.{Reached}
use Rattle.cutting.proofs.runs.first_run.Given as goal

abbrev pub invariant-loop-frame : goal.invariant-loop-frame
invariant-loop-frame l = Reached l.target l.end l.left l.bytes
