use Rattle.std.proofs.Common.{take}
use Rattle.pipelines.proofs.alone.total_of.Given as goal

-- the total of the inputs so far
abbrev pub invariant-loop-task : goal.invariant-loop-task
invariant-loop-task g l = g.W.Work.IsTotalOf (take l.task l.inputs) l.total
