use Rattle.answers.proofs.AnswerLaws.{answers_are_one}
use Rattle.answers.proofs.answer_laws.one_answer.Goals as goal

pub returns : goal.returns
returns c = answers_are_one
