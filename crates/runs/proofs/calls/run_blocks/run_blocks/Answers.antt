use Rattle.std.proofs.Common.{subst}
use Rattle.block_scan.specs.Blocks.{of_blocks}
use Rattle.runs.specs.Made.{told}
use Rattle.runs.specs.Runs.{IsAnswered}
use Rattle.runs.proofs.RunOutcomes.{ran}
use Rattle.runs.proofs.calls.run_blocks.run_blocks.Goals as goal

pub returns-clause-ran : goal.returns-clause-ran
returns-clause-ran g c =
    let S = g.S.BlockSource in
    ran (of_blocks S c.args.settings.limit c.args.source) _ c.in_ok-query.ensures.query
    (subst (λ s. IsAnswered (of_blocks S c.args.settings.limit s) c.in_ok-query.query (told c.in_ok-made.made))
    c.in-Ok.ensures.ok c.in_ok-made.ensures.answered) g.K.Sink _ _ _ c.hand_over.result tt c.hand_over.ensures.handed
