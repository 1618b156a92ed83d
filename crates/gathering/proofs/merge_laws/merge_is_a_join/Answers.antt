use Rattle.std.specs.Cmp.{IsEquivalence}
use Rattle.std.specs.Cmp.Lexicographic.{lists_equiv}
use Rattle.gathering.proofs.EqualInputs.{belongs_as}
use Rattle.gathering.proofs.merge_laws.merge_is_a_join.Given.{Over}
use Rattle.gathering.proofs.merge_laws.merge_is_a_join.Goals as goal

laws : (g : Over) → IsEquivalence g.W.Input.PartialEq.eq
laws g = (g.met.W.Input.Eq g.world.𝓛 g.world.𝓜 g.world.𝓡 ((λ s x. x), (λ x. x), (λ x. x), λ x. x)).laws

pub returns-clause-same_strangers : goal.returns-clause-same_strangers
returns-clause-same_strangers g c = λ a b p alike. belongs_as g.W.Input.PartialEq.eq (laws g) a.inputs b.inputs p alike.inputs

pub returns-clause-same_other_inputs : goal.returns-clause-same_other_inputs
returns-clause-same_other_inputs g c = λ a b xs alike. (lists_equiv (laws g)).congr a.inputs b.inputs xs alike.inputs
