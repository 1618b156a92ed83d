use Rattle.std.proofs.Common.{◌≡◌, true, ◌∙◌}
use Rattle.std.specs.Arc.{arc_value}
use Rattle.gathering.specs.Adding.{same_inputs}
use Rattle.gathering.proofs.Folding.{IsFolded-merge, covered-merge}
use Rattle.gathering.proofs.gather.Gathering.merge.Goals as goal

pub invariant_of-self : goal.invariant_of-self
invariant_of-self g c =
    let met = g.met.W.Input.Eq g.world.𝓛 g.world.𝓜 g.world.𝓡 ((λ s x. x), (λ x. x), (λ x. x), λ x. x) in
    let laws = g.met.W.Work g.world.𝓛 g.world.𝓜 g.world.𝓡 ((λ s x. x), (λ x. x), (λ x. x), λ x. x) in
    IsFolded-merge _ (cc) c.self.invariant c.other.invariant c.keep_longer.ensures.longer c.merge_places.ensures.count c.merge_places.ensures.places
    met.laws laws.equal_totals c.keep_longer.ensures.total

pub returns-clause-merged : goal.returns-clause-merged
returns-clause-merged g c =
    let own = c.self.inside in
    let same : same_inputs g.W.Input.PartialEq.eq (arc_value own.inputs) (arc_value c.other.inside.inputs) ≡ true = cc in
    let united = covered-merge _ same c.self.invariant c.other.invariant c.keep_longer.ensures.longer c.merge_places.ensures.count
    c.merge_places.ensures.places in
    rw (← c.self.view_is, ← c.other.view_is) (c.fold_more.ensures ∙ (λ i. record { inputs = arc_value own.inputs; covered = united i }))
