use Rattle.std.proofs.Common.{◌∙◌}
use Rattle.time_and_sales.specs.Names.{name_text}
use Rattle.meaning.specs.Selected.{locates_of}
use Rattle.planning.proofs.plan_making.plan.Goals as goal

pub returns-clause-selection : goal.returns-clause-selection
returns-clause-selection c =
    let locates = c.in_ok-selection.ensures.locates
    ∙ (λ i. locates_of c.args.query.now.symbols (λ locate. name_text locate (c.names.ensures locate i))) in
    let span = c.in_ok-selection.ensures.span in
    let kinds = c.in_ok-selection.ensures.kinds in
    λ i. record { locates = locates i; span = span i; kinds = kinds i }
