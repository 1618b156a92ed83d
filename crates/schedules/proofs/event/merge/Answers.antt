use Rattle.std.proofs.Common.{rules, length}
use Rattle.std.specs.Arc.{arc_value}
use Rattle.schedules.proofs.Schedules.{merge_step}
use Rattle.schedules.proofs.event.merge.Goals as goal

pub returns-clause-step : goal.returns-clause-step
returns-clause-step g c =
    merge_step c.args.gatherings.now.items c.args.into c.args.other (length (arc_value c.args.inputs.now))
    c.replace-merged.new.dest c.index_mut.result.now c.index_mut-2.result.now c.unite.new.gathering
    (search rules) (search rules) (search rules) (search rules) c.index_mut.ensures.value c.index_mut-2.ensures.value (search rules)
