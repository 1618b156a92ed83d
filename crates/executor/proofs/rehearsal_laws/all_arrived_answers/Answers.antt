use Rattle.executor.proofs.RehearsalLaws.{all_arrived}
use Rattle.executor.proofs.rehearsal_laws.all_arrived_answers.Goals as goal

pub returns : goal.returns
returns c = all_arrived
