use Rattle.std.proofs.Common.{◌≡◌, replicate, None}
use Rattle.gathering.proofs.piece_places.empty_places.Given as goal

abbrev pub invariant-loop-made : goal.invariant-loop-made
invariant-loop-made g l = l.places.items ≡ replicate l.made None
