use Rattle.std.proofs.Common.{drop}
use Rattle.cutting.proofs.CutsAt.{MadeAt}
use Rattle.cutting.proofs.cutting.make_at.Given as goal

abbrev pub invariant-loop-end : goal.invariant-loop-end
invariant-loop-end l = MadeAt l.start l.cut (drop l.end-index l.ends) l.ends l.bytes
