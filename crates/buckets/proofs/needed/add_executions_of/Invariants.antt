use Rattle.std.proofs.Common.{ℕ, List, ◌++◌, map, take}
use Rattle.order_list.specs.Filters.{IsFilterOf}
use Rattle.buckets.proofs.needed.add_executions_of.Given as goal

-- with the executions so far
abbrev pub invariant-loop-execution : goal.invariant-loop-execution
invariant-loop-execution l =
    (executed ordered : List ℕ) → IsFilterOf executed ordered l.initial.filter
    → IsFilterOf (executed ++ map (λ execution. execution.order_no) (take l.execution-index l.executions)) ordered l.filter
