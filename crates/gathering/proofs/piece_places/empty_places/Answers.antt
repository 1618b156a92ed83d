use Rattle.std.proofs.Common.{None}
use Rattle.std.proofs.lemmas.List.{replicate_more}
use Rattle.gathering.proofs.piece_places.empty_places.Goals as goal

pub loop-made-preserved : goal.loop-made-preserved
loop-made-preserved g c = rw (c.in_ok-push.ensures.items, c.loop-made.invariant) (replicate_more c.loop-made.made None)
