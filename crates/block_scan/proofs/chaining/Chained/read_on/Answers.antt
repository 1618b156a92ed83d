use Rattle.block_scan.proofs.chaining.Chained.read_on.Goals as goal

pub returns-clause-gone_on : goal.returns-clause-gone_on
returns-clause-gone_on g c = rw (← c.self.view_is) c.follow.ensures.gone_on
