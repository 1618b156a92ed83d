use Rattle.std.proofs.Common.{sym, subst}
use Rattle.std.specs.List.{concat}
use Rattle.std.proofs.lemmas.Result.{IfOk-weaker}
use Rattle.answers.specs.Answers.{IsAnswer}
use Rattle.executor.proofs.answering_cuts.answer_alone.Goals as goal

pub returns : goal.returns
returns g c =
    IfOk-weaker c.into_answer_alone.result _ _
    (λ answer is. subst (IsAnswer (concat c.args.cut.now) c.args.query.now) (sym is) c.in_ok-made.ensures.answers) c.into_answer_alone.ensures
