use Rattle.std.proofs.Common.{arith, rules}
use Rattle.std.proofs.lemmas.Grind.{common_steps}
use Rattle.std.proofs.lemmas.List.Sorted.{answers_always}
use Rattle.scanning.proofs.total.ScanTotal.add.Goals as goal

pub returns-clause-ok : goal.returns-clause-ok
returns-clause-ok c =
    let least = c.earlier-self-inside.ensures (λ wrong. wrong.place) (answers_always _ _ _ (λ f a r g called. search rules)) in
    grind (arith, common_steps)
