use Rattle.std.proofs.Common.{◌≡◌, ◌∙◌, ap, sym, subst, arith, is_ok, Err, IsOk, length}
use Rattle.std.specs.Arc.{arc_value}
use Rattle.std.proofs.lemmas.List.{length-map}
use Rattle.std.proofs.lemmas.List.Elements.{AllWithin-more}
use Rattle.block_scan.proofs.BlocksAndAttempts.{at_item, first_found, none_found}
use Rattle.block_scan.proofs.Chained.{tried_of}
use Rattle.block_scan.proofs.attempt.Attempts.first_fault.Goals as goal

pub returns-in-Err-clause-fault : goal.returns-in-Err-clause-fault
returns-in-Err-clause-fault g c = λ asked are.
    let S = g.S.BlockSource in
    let v = arc_value c.attempt-item.result in
    let (less, at) = at_item c.deref-attempt-items.ensures.value c.self.view_is c.loop-attempt-test.true c.attempt-item.is in
    let same = c.behind-attempt.view_is ∙ c.deref.ensures ∙ sym (at v) in
    tried_of S (ap (λ w. w.asked) same ∙ are.each _ v less) c.in-Err.is c.behind-attempt.invariant.1

pub loop-attempt-preserved : goal.loop-attempt-preserved
loop-attempt-preserved g c =
    let (less, at) = at_item c.deref-attempt-items.ensures.value c.self.view_is c.loop-attempt-test.true c.attempt-item.is in
    AllWithin-more (λ v. IsOk v.found) c.args.self.now 0 c.loop-attempt.attempt-index c.loop-attempt.invariant
    (λ d. subst (λ v. IsOk v.found) (c.behind-attempt.view_is ∙ c.deref.ensures ∙ sym (at d)) (ap is_ok c.in_default.is))

pub returns-in-Err-clause-first : goal.returns-in-Err-clause-first
returns-in-Err-clause-first g c =
    let v = arc_value c.attempt-item.result in
    let (less, at) = at_item c.deref-attempt-items.ensures.value c.self.view_is c.loop-attempt-test.true c.attempt-item.is in
    sym (first_found c.args.self.now c.loop-attempt.attempt-index v c.in-Err.fault c.loop-attempt.invariant less (at v)
    (subst (λ v. v.found ≡ Err c.in-Err.fault) (c.behind-attempt.view_is ∙ c.deref.ensures) c.in-Err.is))

pub returns-clause-first : goal.returns-clause-first
returns-clause-first g c =
    sym (none_found c.args.self.now (λ k d less. c.loop-attempt.invariant k d (omega arith)
    (omega (
      arith,
      less,
      c.loop-attempt-test.false,
      ap length c.deref-attempt-items.ensures.value,
      ap length c.self.view_is,
      length-map c.self.inside.items.items arc_value,
    ))))
