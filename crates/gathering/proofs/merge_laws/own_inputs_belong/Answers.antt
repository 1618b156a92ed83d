use Rattle.std.specs.Cmp.Lexicographic.{lists_equiv}
use Rattle.gathering.proofs.merge_laws.own_inputs_belong.Goals as goal

pub returns-clause-itself : goal.returns-clause-itself
returns-clause-itself g c =
    let met = g.met.W.Input.Eq g.world.𝓛 g.world.𝓜 g.world.𝓡 ((λ s x. x), (λ x. x), (λ x. x), λ x. x) in (lists_equiv met.laws).refl
