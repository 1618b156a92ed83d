use Rattle.answers.proofs.AnswerLaws.{counted_decide}
use Rattle.answers.proofs.answer_laws.counted_messages_decide.Goals as goal

pub returns : goal.returns
returns c = counted_decide
