use Rattle.std.proofs.Common.{◌<◌, arith, ◌∙◌, ap, length}
use Rattle.std.proofs.lemmas.List.{length-map}
use Rattle.std.specs.Arc.{arc_value}
use Rattle.gathering.proofs.Folding.{can_add, added}
use Rattle.gathering.proofs.inputs.Inputs.fold.Goals as goal

pub add-requires : goal.add-requires
add-requires g c =
    let laws = g.met.W.Work g.world.𝓛 g.world.𝓜 g.world.𝓡 ((λ s x. x), (λ x. x), (λ x. x), λ x. x) in
    let below : c.loop-folded.folded < length c.args.self.now = let t = c.loop-folded-test.true in
    omega (arith, ap length c.self.view_is, length-map c.self.inside.items.items arc_value) in
    can_add c.loop-folded.invariant.folded g.W.Work.Gives g.W.Work.IsAdmissible laws.equal_values (rw c.self.view_is at c.self.invariant.0)
    below c.index.ensures c.in-Some.is c.output.ensures

pub loop-folded-preserved : goal.loop-folded-preserved
loop-folded-preserved g c =
    let laws = g.met.W.Work g.world.𝓛 g.world.𝓜 g.world.𝓡 ((λ s x. x), (λ x. x), (λ x. x), λ x. x) in
    let below : c.loop-folded.folded < length c.args.self.now = let t = c.loop-folded-test.true in
    omega (arith, ap length c.self.view_is, length-map c.self.inside.items.items arc_value) in
    let next = added c.loop-folded.invariant.folded g.W.Work.Gives g.W.Work.IsAdmissible laws.equal_values (rw c.self.view_is at c.self.invariant.0)
    below c.index.ensures c.in-Some.is c.output.ensures c.in_ok-add.ensures.ok in
    record { folded = next.0; covered = next.1 ∙ c.loop-folded.invariant.covered }
