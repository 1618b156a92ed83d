use Rattle.std.proofs.Common.{◌∙◌, ap}
use Rattle.runs.proofs.BlocksScanned.{found_in_blocks}
use Rattle.runs.proofs.calls.run_blocks.outcome_of_blocks.Goals as goal

pub returns-clause-outcome : goal.returns-clause-outcome
returns-clause-outcome g c = rw (← c.in-Ok.ensures.ok) (found_in_blocks g.S.BlockSource _
    (record { limit = c.args.settings.limit_in_range; some = c.args.settings.parts_in_range.0; most = c.args.settings.parts_in_range.1 })
    c.args.query.now (ap (λ q. q.as_of) c.query.view_is) c.args.division.blocks c.args.division.in_range.1 _
    (c.in-Ok-new.ensures.ok ∙ c.in_ok-inputs.ensures.inputs) c.new-plan.ensures c.in_ok-outcome.ensures c.found_or_fault.ensures).0

pub returns-clause-fault : goal.returns-clause-fault
returns-clause-fault g c = rw (← c.in-Ok.ensures.ok) (found_in_blocks g.S.BlockSource _
    (record { limit = c.args.settings.limit_in_range; some = c.args.settings.parts_in_range.0; most = c.args.settings.parts_in_range.1 })
    c.args.query.now (ap (λ q. q.as_of) c.query.view_is) c.args.division.blocks c.args.division.in_range.1 _
    (c.in-Ok-new.ensures.ok ∙ c.in_ok-inputs.ensures.inputs) c.new-plan.ensures c.in_ok-outcome.ensures c.found_or_fault.ensures).1
