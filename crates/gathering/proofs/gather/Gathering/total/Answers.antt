use Rattle.gathering.proofs.Folding.{whole}
use Rattle.gathering.proofs.gather.Gathering.total.Goals as goal

pub returns-in-Ok-clause-total : goal.returns-in-Ok-clause-total
returns-in-Ok-clause-total g c = let done = c.in-Ok.ensures in
    rw (← c.self.view_is, ← c.deref.ensures)
    (whole done.folded (rw (← c.self.view_is, ← done.covered, ← c.deref.ensures) at c.in_default.ensures) done.gap)
