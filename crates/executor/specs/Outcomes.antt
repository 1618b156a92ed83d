-- What the two pipelines of a cut give, by schedules and by threads.
-- To be believed of a crate used by itself.
use Rattle.std.specs.Prelude.{◌≡◌}
use Rattle.pipelines.specs.declared.outcome.Outcome.{Outcome}
use Rattle.pipelines.specs.declared.outcome.Outcome.TheVariants as outcome
use Rattle.schedules.specs.declared.rehearsed.Rehearsed.{Rehearsed}
use Rattle.schedules.specs.declared.rehearsed.Rehearsed.TheVariants.{Finished, Stopped, Missing}

-- by schedules came what came by threads: the same total, with the same that the link kept, or the same stop; of a
-- schedule in which a task is missing nothing is said
abbrev pub GaveTheSame : {T K S : Type 0} → Rehearsed T K S → Outcome T K S → Type 0
GaveTheSame (Finished total kept) given = given ≡ outcome.Finished total kept
GaveTheSame (Stopped stop) given = given ≡ outcome.Stopped stop
GaveTheSame (Missing pipeline task) given = Unit {0}
