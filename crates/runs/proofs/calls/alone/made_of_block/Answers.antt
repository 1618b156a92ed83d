use Rattle.std.specs.List.{concat}
use Rattle.runs.proofs.calls.alone.made_of_block.Goals as goal

pub made_of-requires : goal.made_of-requires
made_of-requires g c =
    let (runs, whole, of) = c.in-Ok.ensures.outcome in
    record { outcome = (runs, of) }

pub returns-in-Ok-clause-answered : goal.returns-in-Ok-clause-answered
returns-in-Ok-clause-answered g c =
    let (runs, whole, of) = c.in-Ok.ensures.outcome in
    (concat runs, whole, tt, c.made_of.ensures.answers runs of)
