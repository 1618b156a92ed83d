use Rattle.std.proofs.lemmas.List.{take_rest}
use Rattle.day_file.proofs.Joined.{IsWhole-nil, truncated_later}
use Rattle.cutting.proofs.runs.run_at.Goals as goal

pub first_run-requires-clause-front : goal.first_run-requires-clause-front
first_run-requires-clause-front c = IsWhole-nil

pub returns-in-Err-clause-truncated : goal.returns-in-Err-clause-truncated
returns-in-Err-clause-truncated c =
    truncated_later c.args.bytes.now c.args.start c.in-Err.fault.place c.requires.whole
    (rw (take_rest c.args.bytes.now c.args.start) at c.in-Err.ensures.truncated)
