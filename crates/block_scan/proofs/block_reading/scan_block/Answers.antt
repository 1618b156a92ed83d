use Rattle.std.proofs.Common.{ap, ap₂, ◌∙◌, refl, subst}
use Rattle.std.proofs.lemmas.Result.{err_from_is_err_and}
use Rattle.block_scan.proofs.Chained.{tried_of}
use Rattle.block_scan.proofs.block_reading.scan_block.Goals as goal

pub returns-in_err-start-clause-tried : goal.returns-in_err-start-clause-tried
returns-in_err-start-clause-tried g c =
    let p = err_from_is_err_and c.from_residual.result c.from_residual.ensures.1 in
    rw (p.1, p.2) (
      _,
      subst (λ s. g.S.BlockSource.FailsAt s c.block.inside.from) (c.deref.ensures ∙ ap (λ v. v.asked.source) c.block.view_is)
          c.in_err-start.ensures.failed,
    )

pub returns-clause-tried : goal.returns-clause-tried
returns-clause-tried g c =
    let S = g.S.BlockSource in
    tried_of S (ap₂ (λ source request. record { source = source; request = request }) c.deref.ensures refl
    ∙ ap (λ v. v.asked) c.block.view_is) refl
    c.scan_piece.ensures.tried
