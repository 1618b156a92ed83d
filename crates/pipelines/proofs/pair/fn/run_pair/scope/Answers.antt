use Rattle.pipelines.proofs.pair.fn.run_pair.scope.Goals as goal

pub returns : goal.returns
returns g c = c.pair_in.ensures
