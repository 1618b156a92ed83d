use Rattle.std.proofs.Common.{ap, sym, subst, ◌∙◌}
use Rattle.std.specs.List.{concat}
use Rattle.std.proofs.lemmas.Result.{IfOk-weaker}
use Rattle.answers.specs.Answers.{IsAnswer}
use Rattle.meaning.specs.Meaning.{Meaning}
use Rattle.scanning.specs.Scans.{inputs_of, total_of}
use Rattle.runs.proofs.Answered.{given_of}
use Rattle.executor.proofs.answering_cuts.answer.Goals as goal

pub made_of-made-requires : goal.made_of-made-requires
made_of-made-requires g c =
    let scans = c.in_ok-scans.ensures in
    let are = c.in_ok-inputs.ensures.ok ∙ scans.inputs ∙ ap (λ (m : Meaning). inputs_of m.as_of c.args.parts c.args.cut.now) c.query.view_is in
    record {
      outcome = (
        c.args.cut.now,
        given_of _ c.in_ok-outcome.ensures c.new-link.ensures c.requires.parts.0 scans.runs
            (λ first is. is ∙ ap total_of are),
      );
    }

pub returns : goal.returns
returns g c =
    let scans = c.in_ok-scans.ensures in
    let are = c.in_ok-inputs.ensures.ok ∙ scans.inputs ∙ ap (λ (m : Meaning). inputs_of m.as_of c.args.parts c.args.cut.now) c.query.view_is in
    IfOk-weaker c.into_answer.result _ _
    (λ answer is. subst (IsAnswer (concat c.args.cut.now) c.args.query.now) (sym is)
    (c.made_of-made.ensures.answers c.args.cut.now
    (given_of _ c.in_ok-outcome.ensures c.new-link.ensures c.requires.parts.0 scans.runs
    (λ first is. is ∙ ap total_of are))))
    c.into_answer.ensures
