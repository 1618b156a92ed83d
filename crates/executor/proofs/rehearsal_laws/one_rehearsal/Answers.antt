use Rattle.executor.proofs.RehearsalLaws.{rehearsals_are_one}
use Rattle.executor.proofs.rehearsal_laws.one_rehearsal.Goals as goal

pub returns : goal.returns
returns c = rehearsals_are_one
