-- Rehearsals over one cut, for one query, by the same schedules, tell the same. Where all tasks have arrived, as those do that arrive each once, in order, none
-- is left.
use Rattle.std.proofs.Common.{◌≡◌, ℕ, List, Result, Option, Some, None, MatchOption, length, refl, subst, ◌<◌, ◌==◌, ◌||◌, true, [], ◌∷◌, map, ap, ◌∙◌}
use Rattle.std.proofs.Common.{arith}
use Rattle.std.specs.List.{concat, list_any}
use Rattle.day_file.specs.Frames.{PlacedBody}
use Rattle.day_file.proofs.Laws.{frames_are_one}
use Rattle.meaning.specs.Meaning.{Meaning}
use Rattle.answers.specs.Answers.{DayFault, IsAnswer, told_by}
use Rattle.day_rows.specs.Messages.{first_wrong}
use Rattle.answers.proofs.AnswerLaws.{answers_are_one}
use Rattle.schedules.specs.Schedules.{first_left, brings, has_arrived}
use Rattle.schedules.specs.declared.event.Event.{Event}
use Rattle.executor.specs.Rehearsals.{IsFinished, IsRehearsed, Tells, TellTheSame, each_once}
use Rattle.executor.specs.declared.rehearsing.Rehearsal.{Rehearsal}
use Rattle.executor.specs.declared.rehearsing.Rehearsal.TheVariants.{Finished, Missing}
use Rattle.std.proofs.lemmas.List.FromFn.{get_or-range_with_len, length-range_with_len}
use Rattle.base.specs.Among.{is_among}
use Rattle.base.specs.Least.{numbers_below}
use Rattle.base.proofs.Among.{among_from}
use Rattle.schedules.specs.declared.event.Event.TheVariants.{Arrive}
use Rattle.schedules.proofs.Schedules.{none_left}

one_finished : (file : List ℕ) (query : Meaning) (one other : Rehearsal) → IsFinished file query one → IsFinished file query other → TellTheSame one other
one_finished file query (Finished one) (Finished other) is is' = answers_are_one file query (told_by one) (told_by other) is is'
one_finished file query (Finished one) (Missing pipeline task) is is' = absurd is'
one_finished file query (Missing pipeline task) other is is' = absurd is

pub rehearsals_are_one : (runs : List (List ℕ)) (query : Meaning) (parts gatherers : ℕ) (events1 events2 : List Event) (one other : Rehearsal)
    → IsRehearsed runs query parts gatherers events1 events2 one → IsRehearsed runs query parts gatherers events1 events2 other → TellTheSame one other
rehearsals_are_one runs query parts gatherers events1 events2 one other is is' =
    go (first_left gatherers (length runs) events1) (first_wrong is.frames) (first_left gatherers parts events2) is.is
    (subst (λ frames. Told (first_left gatherers (length runs) events1) (first_wrong frames) (first_left gatherers parts events2) other)
    (frames_are_one (concat runs) is'.frames is.frames is'.stand is.stand) is'.is)
  where
    Told : Option ℕ → Option PlacedBody → Option ℕ → Rehearsal → Type 0
    Told first wrong second r =
        MatchOption first
        (MatchOption wrong (MatchOption second (IsFinished (concat runs) query r) (λ task. r ≡ Missing 2 task)) (λ w. IsFinished (concat runs) query r))
        (λ task. r ≡ Missing 1 task)

    go : (first : Option ℕ) (wrong : Option PlacedBody) (second : Option ℕ) → Told first wrong second one → Told first wrong second other
        → TellTheSame one other
    go (Some task) wrong second e f = rw (e, f) (refl, refl)
    go None (Some w) second e f = one_finished (concat runs) query one other e f
    go None None (Some task) e f = rw (e, f) (refl, refl)
    go None None None e f = one_finished (concat runs) query one other e f

-- a rehearsal that has the answer has this one
pub finished_tells : (file : List ℕ) (query : Meaning) (told : Result (List ℕ) DayFault) (rehearsal : Rehearsal)
    → IsAnswer file query told → IsFinished file query rehearsal → Tells rehearsal told
finished_tells file query told (Finished answer) is finished = answers_are_one file query (told_by answer) told finished is
finished_tells file query told (Missing pipeline task) is finished = absurd finished

brought : (task : ℕ) (tasks : List ℕ) → list_any (brings 1 task) (map (λ t. Arrive 0 t) tasks) ≡ is_among tasks task
brought task [] = refl
brought task (t ∷ ts) = ap (λ b. (t == task) || b) (brought task ts)

arrived : (n task : ℕ) → task < n → has_arrived 1 (each_once n) task ≡ true
arrived n task below = brought task (numbers_below n)
    ∙ among_from (numbers_below n) task (task, omega (arith, length-range_with_len 0 n, below), get_or-range_with_len 0 n task task below ∙ omega arith)

pub all_arrived : (runs : List (List ℕ)) (query : Meaning) (parts gatherers : ℕ) (events1 events2 : List Event) (rehearsal : Rehearsal)
    → IsRehearsed runs query parts gatherers events1 events2 rehearsal
    → ((task : ℕ) → task < length runs → has_arrived gatherers events1 task ≡ true)
    → ((task : ℕ) → task < parts → has_arrived gatherers events2 task ≡ true) → IsFinished (concat runs) query rehearsal
all_arrived runs query parts gatherers events1 events2 rehearsal of first second =
    go (first_wrong of.frames) (rw (none_left gatherers (length runs) events1 first) at of.is)
  where
    go : (wrong : Option PlacedBody)
        → MatchOption wrong
        (MatchOption (first_left gatherers parts events2) (IsFinished (concat runs) query rehearsal) (λ task. rehearsal ≡ Missing 2 task))
        (λ w. IsFinished (concat runs) query rehearsal)
        → IsFinished (concat runs) query rehearsal
    go (Some frame) is = is
    go None is = rw (none_left gatherers parts events2 second) at is

pub once_in_order : (runs : List (List ℕ)) (query : Meaning) (parts : ℕ) (rehearsal : Rehearsal)
    → IsRehearsed runs query parts 1 (each_once (length runs)) (each_once parts) rehearsal → IsFinished (concat runs) query rehearsal
once_in_order runs query parts rehearsal of =
    all_arrived runs query parts 1 (each_once (length runs)) (each_once parts) rehearsal of (arrived (length runs)) (arrived parts)
