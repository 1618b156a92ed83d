use Rattle.std.proofs.Common.{drop}
use Rattle.cutting.proofs.CutsAt.{Tried}
use Rattle.cutting.proofs.cutting.first_bad.Given as goal

abbrev pub invariant-loop-end : goal.invariant-loop-end
invariant-loop-end l = Tried l.bytes l.start (drop l.end-index l.ends) l.ends
