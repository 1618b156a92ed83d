use Rattle.executor.proofs.RehearsalLaws.{once_in_order}
use Rattle.executor.proofs.rehearsal_laws.each_once_answers.Goals as goal

pub returns : goal.returns
returns c = once_in_order
