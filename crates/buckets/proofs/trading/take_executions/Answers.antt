use Rattle.std.proofs.Common.{[], ◌++◌, ◌∙◌, ap, ap₂, refl, subst}
use Rattle.probe.specs.Pricing.{priced}
use Rattle.probe.specs.Selection.{admits, kept}
use Rattle.probe.proofs.KeptSales.{kept_have_shares}
use Rattle.buckets.proofs.PricedParts.{kept_fit, priced_fit}
use Rattle.buckets.proofs.trading.take_executions.Goals as goal

pub take-requires-clause-shares : goal.take-requires-clause-shares
take-requires-clause-shares g c =
    rw (c.as_slice.ensures.value, c.keep.ensures)
    (kept_have_shares c.breaks.result.now (admits c.selection.result.now) c.price_into.new.priced.sales.items)

pub take-requires-clause-fit : goal.take-requires-clause-fit
take-requires-clause-fit g c =
    let rows = c.requires.priced.0 in
    let pricing = c.in_ok-price_into.ensures.priced rows [] c.requires.priced.1 (record { sales = c.clear.ensures.items; unknown = refl }) in
    rw (c.as_slice.ensures.value, c.keep.ensures, pricing.sales)
    (kept_fit c.breaks.result.now (admits c.selection.result.now) (priced rows c.args.executions.now) (priced_fit rows c.args.executions.now c.requires.fit))

pub returns-clause-unknown : goal.returns-clause-unknown
returns-clause-unknown g c = λ rows is. (c.in_ok-price_into.ensures.priced rows [] is (record { sales = c.clear.ensures.items; unknown = refl })).unknown

pub returns-clause-sales : goal.returns-clause-sales
returns-clause-sales g c = λ rows before is has.
    let pricing = c.in_ok-price_into.ensures.priced rows [] is (record { sales = c.clear.ensures.items; unknown = refl }) in
    let selection = admits c.selection.result.now in
    let made = priced rows c.args.executions.now in
    subst (λ l. g.T.TakesSales.Has (before ++ l) c.take.new.self)
    (c.as_slice.ensures.value ∙ c.keep.ensures ∙ ap (kept c.breaks.result.now selection) pricing.sales
    ∙ ap₂ (λ breaks chosen. kept breaks (admits chosen) made) c.breaks.ensures c.selection.ensures)
    (c.in_ok-take.ensures before has)
