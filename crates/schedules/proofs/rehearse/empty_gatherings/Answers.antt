use Rattle.std.proofs.Common.{arith}
use Rattle.std.proofs.lemmas.Grind.{elements}
use Rattle.std.proofs.lemmas.List.{map_push, replicate_more}
use Rattle.schedules.proofs.rehearse.empty_gatherings.Goals as goal

pub loop-preserved : goal.loop-preserved
loop-preserved g c = record {
  inputs = grind (arith, elements);
  empty = rw (c.in_ok-push.ensures.items, map_push, c.loop.invariant.empty, c.in_ok-new_in.ensures.covered) (replicate_more _ _);
}
