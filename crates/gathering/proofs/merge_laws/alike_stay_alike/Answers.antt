use Rattle.std.proofs.Common.{ap, ◌∙◌}
use Rattle.std.specs.Cmp.{IsEquivalence}
use Rattle.std.specs.Cmp.Lexicographic.{lists_equiv, pointwise}
use Rattle.std.specs.FinSet.{union}
use Rattle.gathering.proofs.merge_laws.alike_stay_alike.Given.{Over}
use Rattle.gathering.proofs.merge_laws.alike_stay_alike.Goals as goal

lists : (g : Over) → IsEquivalence (pointwise g.W.Input.PartialEq.eq)
lists g = lists_equiv (g.met.W.Input.Eq g.world.𝓛 g.world.𝓜 g.world.𝓡 ((λ s x. x), (λ x. x), (λ x. x), λ x. x)).laws

pub returns-clause-merged_from : goal.returns-clause-merged_from
returns-clause-merged_from g c = λ a b d alike. record { inputs = (lists g).refl d.inputs; covered = ap (union d.covered) alike.covered }

pub returns-clause-same_as_other : goal.returns-clause-same_as_other
returns-clause-same_as_other g c = λ a b xs alike.
    (lists g).symm xs a.inputs ∙ (lists g).congr a.inputs b.inputs xs alike.inputs ∙ (lists g).symm b.inputs xs
