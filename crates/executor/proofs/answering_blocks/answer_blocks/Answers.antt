use Rattle.executor.proofs.answering_blocks.answer_blocks.Goals as goal

pub returns : goal.returns
returns g c = rw c.in_ok-answer.ensures c.in_ok-made.ensures.answered
