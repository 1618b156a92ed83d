-- What a rehearsal over a cut day file gives.
-- To be believed of a crate used by itself.
use Rattle.std.specs.Prelude.{◌≡◌, ℕ, List, Result, length, map, MatchOption}
use Rattle.std.specs.List.{concat}
use Rattle.base.specs.Least.{numbers_below}
use Rattle.day_file.specs.Frames.{PlacedBody, StandsFor}
use Rattle.meaning.specs.Meaning.{Meaning}
use Rattle.schedules.specs.Schedules.{first_left}
use Rattle.schedules.specs.declared.event.Event.{Event}
use Rattle.schedules.specs.declared.event.Event.TheVariants.{Arrive}
use Rattle.answers.specs.Answers.{DayFault, IsAnswer, told_by}
use Rattle.day_rows.specs.Messages.{first_wrong}
use Rattle.executor.specs.declared.rehearsing.Rehearsal.{Rehearsal}
use Rattle.executor.specs.declared.rehearsing.Rehearsal.TheVariants.{Finished, Missing}

-- the rehearsal has the answer to the query over the file (`IsAnswer`)
abbrev pub IsFinished : List ℕ → Meaning → Rehearsal → Type 0
IsFinished file query (Finished answer) = IsAnswer file query (told_by answer)
IsFinished file query (Missing pipeline task) = ⊥

-- the rehearsal has this answer
abbrev pub Tells : Rehearsal → Result (List ℕ) DayFault → Type 0
Tells (Finished answer) told = told_by answer ≡ told
Tells (Missing pipeline task) told = ⊥

-- what a rehearsal gives: the first morsel that has not arrived; else, if a length of the file is wrong, the answer,
-- which says so; else the first partition that has not arrived; else the answer
pub record IsRehearsed (runs : List (List ℕ)) (query : Meaning) (parts gatherers : ℕ) (events1 events2 : List Event)
    (rehearsal : Rehearsal) : Type 0 where
  pub frames : List PlacedBody
  pub stand : StandsFor frames (concat runs)
  pub is : MatchOption (first_left gatherers (length runs) events1)
      (MatchOption (first_wrong frames)
      (MatchOption (first_left gatherers parts events2)
      (IsFinished (concat runs) query rehearsal)
      (λ task. rehearsal ≡ Missing 2 task))
      (λ wrong. IsFinished (concat runs) query rehearsal))
      (λ task. rehearsal ≡ Missing 1 task)

-- the schedule in which each task arrives once, in order, at the first gatherer; by such schedules a rehearsal has
-- the answer (`each_once_answers`)
abbrev pub each_once : ℕ → List Event
each_once tasks = map (λ task. Arrive 0 task) (numbers_below tasks)

-- two rehearsals report the same: one answer, or one missing task; over one cut, for one query, by the same
-- schedules, all do (`one_rehearsal`)
abbrev pub TellTheSame : Rehearsal → Rehearsal → Type 0
TellTheSame (Finished one) (Finished other) = told_by one ≡ told_by other
TellTheSame (Missing pipeline task) (Missing number other) = (pipeline ≡ number) × (task ≡ other)
TellTheSame _ _ = ⊥
