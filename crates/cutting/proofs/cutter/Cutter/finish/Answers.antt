use Rattle.std.proofs.Common.{◌∙◌, length, ap, subst, arith}
use Rattle.std.proofs.lemmas.Result.{err_from_is_err_and}
use Rattle.cutting.specs.Cutting.{IsCutBy}
use Rattle.day_file.specs.Cuts.{rest_run}
use Rattle.cutting.specs.Feeding.{CutterView}
use Rattle.cutting.proofs.Fed.{IsLast, end_of}
use Rattle.cutting.proofs.cutter.Cutter.finish.Goals as goal

pub returns-in_err-cut_off-clause-fault : goal.returns-in_err-cut_off-clause-fault
returns-in_err-cut_off-clause-fault c =
    let p = err_from_is_err_and c.from_residual-in_err-cut_off.result c.from_residual-in_err-cut_off.ensures.1 in rw (p.1, p.2) c.in_ok-count_all.ensures.few

last : (c : goal.After-into_bytes) → IsLast c.cut_off.new.self c.self.invariant.fed
last c =
    let fed = c.self.invariant.fed in
    let has = rw c.self.view_is at c.self.invariant.has in
    let after = c.in_ok-cut_off.ensures in
    end_of c.cut_off.new.self fed (after.fed fed has) after.rest (rw after.target (c.in_ok-count_all.ensures.few fed has))

pub append_rest-requires-clause-whole : goal.append_rest-requires-clause-whole
append_rest-requires-clause-whole c = rw (c.into_bytes.ensures ∙ ap (λ (v : CutterView). v.rest) c.self-2.view_is) (last c).whole

pub append_rest-requires-clause-room : goal.append_rest-requires-clause-room
append_rest-requires-clause-room c =
    let left = c.into_bytes.ensures ∙ ap (λ (v : CutterView). v.rest) c.self-2.view_is in
    omega (arith, (last c).few, ap (λ l. length (rest_run l)) left, ap (λ (v : CutterView). length v.cut) c.self-2.view_is)

pub returns-in_err-append_rest-clause-fault : goal.returns-in_err-append_rest-clause-fault
returns-in_err-append_rest-clause-fault c =
    let p = err_from_is_err_and c.from_residual-in_err-append_rest.result c.from_residual-in_err-append_rest.ensures.1 in
    rw (p.1, p.2) c.in_ok-count_all.ensures.few

pub returns-clause-cut : goal.returns-clause-cut
returns-clause-cut c = λ fed has.
    let after = c.in_ok-cut_off.ensures in
    let end = end_of c.cut_off.new.self fed (after.fed fed has) after.rest (rw after.target (c.in_ok-count_all.ensures.few fed has)) in
    let left = c.into_bytes.ensures ∙ ap (λ (v : CutterView). v.rest) c.self-2.view_is in
    subst (λ n. IsCutBy n c.append_rest.new.self fed) after.target
    (rw (c.in_ok-append_rest.ensures.ok, left, ap (λ (v : CutterView). v.cut) c.self-2.view_is) end.runs)
