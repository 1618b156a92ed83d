use Rattle.std.proofs.Common.{◌≡◌, map}
use Rattle.std.specs.Arc.{arc_value}
use Rattle.base.specs.Least.{numbers_below}
use Rattle.pipelines.proofs.by_number.numbered.Given as goal

abbrev pub invariant-loop-number : goal.invariant-loop-number
invariant-loop-number g l = map arc_value l.items.items ≡ numbers_below l.number
