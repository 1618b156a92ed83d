use Rattle.std.proofs.Common.{◌≤◌, ◌-◌, length, map, take}
use Rattle.std.specs.Arc.{arc_value}
use Rattle.scanning.specs.Scans.{AreTogether}
use Rattle.scanning.proofs.cut_inputs.batch_inputs.Given as goal

-- the inputs of the morsels so far
abbrev pub invariant-loop-from : goal.invariant-loop-from
invariant-loop-from l =
    AreTogether l.together l.first l.start l.as_of l.parts (take l.from l.cut) (map arc_value l.inputs.items) × (l.from ≤ length l.morsels)

abbrev pub decreases-loop-from : goal.decreases-loop-from
decreases-loop-from l = length l.morsels - l.from
