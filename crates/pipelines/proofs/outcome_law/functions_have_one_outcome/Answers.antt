use Rattle.pipelines.proofs.OneOutcome.{one_outcome}
use Rattle.pipelines.proofs.outcome_law.functions_have_one_outcome.Goals as goal

pub returns : goal.returns
returns g c = λ link inputs total_of_first linked total_of outcome one_first one_link one_total is.
    one_outcome _ _ _ (total_of_first inputs) linked total_of one_first one_link one_total outcome is
