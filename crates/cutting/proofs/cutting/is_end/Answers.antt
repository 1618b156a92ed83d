use Rattle.day_file.proofs.Laws.{not_both}
use Rattle.cutting.proofs.cutting.is_end.Goals as goal

pub returns-in-Err : goal.returns-in-Err
returns-in-Err c = absurd (not_both c.args.bytes.now c.requires.whole.0 c.in-Err.field-0.place c.requires.whole.1 c.in-Err.ensures.truncated)
