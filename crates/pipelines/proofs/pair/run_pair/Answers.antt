use Rattle.pipelines.proofs.pair.run_pair.Goals as goal

pub returns : goal.returns
returns g c = rw (← c.deref-inputs.ensures) c.scoped.ensures.1
