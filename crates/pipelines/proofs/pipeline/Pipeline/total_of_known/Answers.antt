use Rattle.std.proofs.Common.{◌≡◌, length, take, ap, subst, sym, ◌∙◌, arith}
use Rattle.std.specs.Arc.{arc_value}
use Rattle.std.proofs.lemmas.List.{take_all}
use Rattle.std.proofs.lemmas.List.FromFn.{length-range_with_len}
use Rattle.std.proofs.lemmas.Result.{IfOk-weaker}
use Rattle.pipelines.proofs.pipeline.Pipeline.total_of_known.Goals as goal

pub returns-clause-total : goal.returns-clause-total
returns-clause-total g c =
    let inputs = g.K.Known.inputs in
    let count = length (arc_value c.in_ok-inputs.inputs) in
    let counted = ap length c.in_ok-inputs.ensures ∙ length-range_with_len 0 (length inputs) in
    let all : take count inputs ≡ c.args.inputs.now = take_all count inputs (omega (arith, counted)) ∙ sym c.requires.known in
    IfOk-weaker c.total_of_shared.result (λ total. g.W.Work.IsTotalOf (take count inputs) total) (λ total. g.W.Work.IsTotalOf (c.args.inputs.now) total)
    (λ total is. subst (λ l. g.W.Work.IsTotalOf l total) all is) c.total_of_shared.ensures.total
