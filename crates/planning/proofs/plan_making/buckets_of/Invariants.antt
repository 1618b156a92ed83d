use Rattle.std.proofs.Common.{◌≡◌, map}
use Rattle.std.specs.Arc.{arc_value}
use Rattle.base.specs.Least.{numbers_below}
use Rattle.buckets.specs.BucketRows.{bucket_of}
use Rattle.planning.proofs.plan_making.buckets_of.Given as goal

-- the buckets of the numbers so far
abbrev pub invariant-loop-number : goal.invariant-loop-number
invariant-loop-number l = map arc_value l.buckets.items ≡ map (bucket_of (arc_value l.plan)) (numbers_below l.number)
