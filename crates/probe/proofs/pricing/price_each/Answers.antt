use Rattle.std.proofs.Common.{◌++◌, rules, subst, sym}
use Rattle.std.proofs.lemmas.List.{take_all}
use Rattle.probe.specs.Pricing.{IsPricingOf}
use Rattle.probe.proofs.PricedExecutions.{few_more}
use Rattle.probe.proofs.pricing.price_each.Goals as goal

pub loop-done-preserved : goal.loop-done-preserved
loop-done-preserved g c =
    let done = c.loop-done.done in
    let before = c.loop-done.invariant in
    let count = c.min-count.result in record {
      priced = λ rows others by was.
          subst (λ l. IsPricingOf rows l c.price_few.new.priced) (sym (few_more others c.args.executions.now done count))
          (c.price_few.ensures.priced rows _ by (before.priced rows others by was));
      within = search rules;
      len = search rules;
      capacity = search rules;
    }

pub returns : goal.returns
returns g c = λ rows before by was.
    subst (λ l. IsPricingOf rows (before ++ l) c.loop-done.priced) (take_all _ _ c.loop-done-test.false)
    (c.loop-done.invariant.priced rows before by was)
