use Rattle.std.proofs.Common.{◌≡◌, map}
use Rattle.std.specs.Arc.{arc_value}
use Rattle.base.specs.Least.{numbers_below}
use Rattle.block_scan.specs.Attempts.{block_at}
use Rattle.block_scan.proofs.blocks.blocks.Given as goal

-- the blocks of the numbers so far
abbrev pub invariant-loop-number : goal.invariant-loop-number
invariant-loop-number g l =
    map arc_value l.blocks.items ≡ map (block_at (arc_value l.source) l.request l.division.blocks) (numbers_below l.number)
