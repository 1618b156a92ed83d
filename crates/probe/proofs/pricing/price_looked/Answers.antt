use Rattle.std.proofs.Common.{◌∙◌, ◌<◌, ◌++◌, ◌∷◌, [], ap, ap₂, arith, length, option_map, option_to_list, rules, sym}
use Rattle.std.proofs.lemmas.Grind.{common_steps}
use Rattle.std.proofs.lemmas.List.Sorted.{answers_always}
use Rattle.base.specs.Least.{least_by}
use Rattle.probe.specs.Pricing.{Sale, Unknown, unknown_of}
use Rattle.probe.proofs.PricedExecutions.{priced_more, priced_stays, unknown_more, unknown_stays}
use Rattle.probe.proofs.pricing.price_looked.Goals as goal
use Rattle.probe.proofs.pricing.price_looked.Goals.{in-Some, in-None}

pub loop-at-preserved : goal.loop-at-preserved
loop-at-preserved g c =
    let executions = c.args.executions.now in
    let i = c.loop-at.at in
    let below : i < length executions = omega arith in
    let before = c.loop-at.invariant in
    elim c.match-price_before.branch [
      | in-Some w ↦ record {
        priced = λ rows others by was.
            let now = before.priced rows others by was in
            record {
              sales =
                  let more = priced_more rows others executions i _ below w.in-Some.price (w.in-Some.ensures rows by) in
                  ap (λ p. p.sales.items) w.priced-is ∙ w.push_reserved.ensures.items
                  ∙ ap₂ (λ l (s : Sale). l ++ s ∷ []) now.sales w.sale_of.ensures ∙ sym more;
              unknown =
                  let stays = ap (option_map unknown_of) (unknown_stays rows others executions i _ below w.in-Some.price (w.in-Some.ensures rows by)) in
                  ap (λ p. p.unknown) w.priced-is ∙ now.unknown ∙ sym stays;
            };
        len = search rules;
        capacity = search rules;
      }
      | in-None w ↦ record {
        priced = λ rows others by was.
            let now = before.priced rows others by was in
            record {
              sales =
                  let stays = priced_stays rows others executions i _ below (w.in-None.ensures rows by) in
                  ap (λ p. p.sales.items) w.priced-is ∙ now.sales ∙ sym stays;
              unknown =
                  let more = unknown_more rows others executions i _ below (w.in-None.ensures rows by) in
                  ap (λ p. p.unknown) w.priced-is ∙ w.earlier-priced.ensures (λ unknown. unknown.place) (answers_always _ _ _ (λ f a r g called. search rules))
                  ∙ ap₂ (λ o (u : Unknown). least_by (λ unknown. unknown.place) (option_to_list o ++ u ∷ [])) now.unknown w.unknown_of.ensures ∙ sym more;
            };
        len = search rules;
        capacity = search rules;
      }
    ]

pub returns : goal.returns
returns g c = grind (arith, common_steps)
