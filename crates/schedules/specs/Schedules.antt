-- Schedules: which tasks have arrived, and what an event makes of the gatherers' covered sets.
-- To be believed of a crate used by itself.
use Rattle.std.specs.Prelude.{◌≡◌, ℕ, ◌==◌, ◌&&◌, nat_lt, if◌then◌else◌, Bool, false, not, List, Option, All, map, length, find, slice_index_or, slice_set}
use Rattle.std.specs.List.{list_any, range_with_len}
use Rattle.std.specs.Ordering.{nat_cmp}
use Rattle.std.specs.FinSet.{FinSet, contains, insert, union, empty}
use Rattle.gathering.specs.Views.{GatheringView}
pub use Rattle.schedules.specs.declared.event.Event.{Event}
pub use Rattle.schedules.specs.declared.event.Event.TheVariants.{Arrive, Lose, Merge}

-- the event is an arrival of the task at one of the gatherers
abbrev pub brings : ℕ → ℕ → Event → Bool
brings gatherers task (Arrive gatherer named) = nat_lt gatherer gatherers && (named == task)
brings gatherers task (Lose named) = false
brings gatherers task (Merge into other) = false

-- some arrival of the schedule names the task
abbrev pub has_arrived : ℕ → List Event → ℕ → Bool
has_arrived gatherers events task = list_any (brings gatherers task) events

-- the least of the tasks that has not arrived
abbrev pub first_left : ℕ → ℕ → List Event → Option ℕ
first_left gatherers tasks events = find (λ task. not (has_arrived gatherers events task)) (range_with_len 0 tasks)

-- the sets of covered tasks of gatherings, in order
abbrev pub covered_sets : {A : Type 0} → List (GatheringView A) → List (FinSet nat_cmp)
covered_sets gatherings = map (λ g. g.covered) gatherings

-- some gatherer covers the task
abbrev pub some_covers : List (FinSet nat_cmp) → ℕ → Bool
some_covers sets task = list_any (λ s. contains s task) sets

-- what an event makes of the sets of covered tasks; it changes nothing if it names a gatherer or a task that doesn't
-- exist, or merges a gatherer into itself
abbrev pub after : ℕ → List (FinSet nat_cmp) → Event → List (FinSet nat_cmp)
after tasks sets (Arrive gatherer task) =
    (if nat_lt task tasks then slice_set sets gatherer (insert (slice_index_or sets gatherer empty) task) else sets)
after tasks sets (Lose task) = sets
after tasks sets (Merge into other) = (if nat_lt into (length sets) && nat_lt other (length sets) && not (into == other)
    then slice_set (slice_set sets other empty) into
    (union (slice_index_or sets into empty) (slice_index_or sets other empty))
    else sets)

-- the gatherings are over these inputs
abbrev pub AreOver : {A : Type 0} → List A → List (GatheringView A) → Type 0
AreOver inputs gatherings = All (λ g. g.inputs ≡ inputs) gatherings
