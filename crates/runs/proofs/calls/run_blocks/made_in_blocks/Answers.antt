use Rattle.std.proofs.Common.{◌∙◌, subst}
use Rattle.std.specs.List.{concat}
use Rattle.block_scan.specs.Blocks.{GaveWhole}
use Rattle.runs.proofs.calls.run_blocks.made_in_blocks.Goals as goal

pub made_of-requires : goal.made_of-requires
made_of-requires g c =
    let (runs, whole, of) = c.in-Ok-outcome.ensures.outcome in
    record { outcome = (runs, of) }

pub returns-clause-answered : goal.returns-clause-answered
returns-clause-answered g c =
    let (runs, whole, of) = c.in-Ok-outcome.ensures.outcome in
    let own = subst (λ s. GaveWhole g.S.BlockSource c.args.settings.limit s (concat runs)) (c.over-watch.ensures ∙ c.in-Ok.ensures) whole in
    (concat runs, own, tt, c.made_of.ensures.answers runs of)
