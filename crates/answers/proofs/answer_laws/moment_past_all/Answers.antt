use Rattle.answers.proofs.AnswerLaws.{past_all}
use Rattle.answers.proofs.answer_laws.moment_past_all.Goals as goal

pub returns : goal.returns
returns c = past_all
