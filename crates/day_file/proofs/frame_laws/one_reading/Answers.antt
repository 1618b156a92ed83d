use Rattle.day_file.proofs.Laws.{not_both, truncated_once}
use Rattle.day_file.proofs.frame_laws.one_reading.Goals as goal

pub returns-clause-exclude : goal.returns-clause-exclude
returns-clause-exclude c = not_both

pub returns-clause-place : goal.returns-clause-place
returns-clause-place c = truncated_once
