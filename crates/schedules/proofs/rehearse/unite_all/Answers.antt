use Rattle.std.proofs.Common.{◌∙◌, ap, arith}
use Rattle.std.proofs.lemmas.Grind.{elements}
use Rattle.std.proofs.lemmas.List.{nil_from_length}
use Rattle.std.proofs.lemmas.Option.{MatchOption-at_none}
use Rattle.schedules.proofs.Schedules.{last_merged}
use Rattle.schedules.proofs.rehearse.unite_all.Goals as goal

pub loop-other-preserved : goal.loop-other-preserved
loop-other-preserved g c = record {
  inputs = ap (λ v. v.inputs) c.unite.ensures ∙ c.loop-other.invariant.inputs;
  own = grind (arith, elements);
  covered = λ task. last_merged _ _ c.in-Some.other _ _ task c.in-Some.ensures.items (ap (λ v. v.covered) c.unite.ensures)
      ∙ c.loop-other.invariant.covered task;
}

pub returns-clause-covered : goal.returns-clause-covered
returns-clause-covered g c = λ task.
    let others = c.loop-other.others in
    let empty = MatchOption-at_none _ _ c.in_default.is c.pop.ensures.cases in
    let none = nil_from_length others.items (omega (arith, others.ok.0, empty.0)) in
    let all = rw none at (c.loop-other.invariant.covered task) in grind arith
