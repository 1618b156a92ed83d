-- What a pair of pipelines gives by two schedules.
-- To be believed of a crate used by itself.
use Rattle.std.specs.Prelude.{◌≡◌, ◌⊎◌, ℕ, List, Some, None, length}
use Rattle.std.specs.Option.{option_map_or}
use Rattle.schedules.specs.Schedules.{Event, first_left}
use Rattle.gathering.specs.declared.linked.Linked.{Linked}
pub use Rattle.gathering.specs.declared.linked.Linked.TheVariants.{Next, Halt}
use Rattle.schedules.specs.declared.rehearsed.Rehearsed.{Rehearsed}
use Rattle.schedules.specs.declared.rehearsed.Rehearsed.TheVariants.{Finished, Stopped, Missing}

-- Which answers two schedules may have. `tasks` is the number of tasks of the first pipeline, `IsFirst` says which
-- totals it may have, `Links` what a total may be linked to, and `IsTotalOf` what a list of inputs of the second
-- pipeline may add up to.
module _ {F I T K S : Type 0} (tasks : ℕ) (IsFirst : F → Type 0) (Links : F → Linked (List I) K S → Type 0)
    (IsTotalOf : List I → T → Type 0) (gatherers : ℕ) (events1 events2 : List Event) where
  -- the first task that has not arrived, of the first pipeline, or else of the second; or else what comes of both
  abbrev pub IsRehearsed : Rehearsed T K S → Type 0
  IsRehearsed (Missing pipeline task) =
      ((pipeline ≡ 1) × (first_left gatherers tasks events1 ≡ Some task))
      ⊎ ((pipeline ≡ 2) × (first_left gatherers tasks events1 ≡ None)
      × ((first : F) × (inputs : List I) × (kept : K) × IsFirst first × Links first (Next inputs kept)
      × (first_left gatherers (length inputs) events2 ≡ Some task)))
  IsRehearsed (Finished total kept) =
      (first_left gatherers tasks events1 ≡ None)
      × ((first : F) × (inputs : List I) × IsFirst first × Links first (Next inputs kept)
      × (first_left gatherers (length inputs) events2 ≡ None) × IsTotalOf inputs total)
  IsRehearsed (Stopped stop) =
      (first_left gatherers tasks events1 ≡ None) × ((first : F) × IsFirst first × Links first (Halt stop))

-- what comes once the first pipeline is linked: the second by its schedule, or the link's stop
abbrev pub after_link : {I T K S : Type 0}
    → (List I → T) → ℕ → List Event → Linked (List I) K S → Rehearsed T K S
after_link total_of gatherers events (Next inputs kept) = option_map_or (λ task. Missing 2 task)
    (first_left gatherers (length inputs) events) (Finished (total_of inputs) kept)
after_link total_of gatherers events (Halt stop) = Stopped stop
