use Rattle.cutting.proofs.CutsBy.{cuts_are_one, runs_bound}
use Rattle.cutting.proofs.cut_laws.one_cut.Goals as goal

pub returns : goal.returns
returns c = record { one = cuts_are_one; bound = runs_bound }
