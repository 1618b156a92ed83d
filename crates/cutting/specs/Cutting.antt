-- How a file is cut into runs of whole frames, by a target or at given places, and what a refusal says of it.
-- To be believed.
use Rattle.std.specs.Prelude.{◌≡◌, ℕ, ◌+◌, ◌-◌, ◌<◌, ◌≤◌, ◌⊎◌, List, [], ◌∷◌, length, take, All}
use Rattle.std.specs.List.{concat}
use Rattle.base.specs.declared.limits.TheConstants.{MOST_MORSELS}
use Rattle.cutting.specs.declared.cutting.CutFault.{CutFault}
use Rattle.cutting.specs.declared.cutting.CutFault.TheVariants.{Truncated, NotABoundary, TooManyMorsels, OutOfMemory}
use Rattle.day_file.specs.Cuts.{IsRun}
use Rattle.day_file.specs.Frames.{IsTruncatedAt, IsWhole}

-- runs whose bytes, in order, are these bytes
pub record IsCutOf (runs : List (List ℕ)) (bytes : List ℕ) : Type 0 where
  pub each : All IsRun runs
  pub joined : bytes ≡ concat runs

-- each shorter front of the run that is whole frames has fewer bytes than the target
abbrev pub HasNoShorter : ℕ → List ℕ → Type 0
HasNoShorter target run = (n : ℕ) → n < length run → IsWhole (take n run) → n < target

-- all runs but the last
abbrev pub but_last : List (List ℕ) → List (List ℕ)
but_last runs = take (length runs - 1) runs

-- a cut, each run of which is the shortest that has at least `target` bytes, or the rest. At most one
-- cut is that (`one_cut`), and each answer of `cut` says that the file is truncated, or has such a cut.
pub record IsCutBy (target : ℕ) (runs : List (List ℕ)) (bytes : List ℕ) : Type 0 where
  pub cut : IsCutOf runs bytes
  pub shortest : All (HasNoShorter target) runs
  pub full : All (λ run. target ≤ length run) (but_last runs)

-- where each run ends, if the first one begins here
abbrev pub ends_of : ℕ → List (List ℕ) → List ℕ
ends_of start [] = []
ends_of start (run ∷ runs) = (start + length run) ∷ ends_of (start + length run) runs

-- a cut, all runs of which but the last end at these places. At most one cut is that (`one_cut_at`), and each answer
-- of `cut_at` says that the file is truncated, that an end is bad, or that there is such a cut.
pub record IsCutAt (ends : List ℕ) (runs : List (List ℕ)) (bytes : List ℕ) : Type 0 where
  pub cut : IsCutOf runs bytes
  pub at : ends_of 0 (but_last runs) ≡ ends

-- in bytes that are whole frames, a frame begins at this place
abbrev pub IsPlace : List ℕ → ℕ → Type 0
IsPlace bytes place = (place < length bytes) × IsWhole (take place bytes)

-- the first of the ends that isn't the place of a frame, or isn't greater than the end before it; `last` is the end
-- before the first one
abbrev pub IsFirstBad : List ℕ → ℕ → List ℕ → ℕ → Type 0
IsFirstBad bytes last [] bad = ⊥
IsFirstBad bytes last (end ∷ ends) bad =
    ((end ≡ bad) × ¬ ((last < end) × IsPlace bytes end))
    ⊎ ((last < end) × IsPlace bytes end × IsFirstBad bytes end ends bad)

-- each of the ends is greater than the one before it, the first one than `last`, and is the place of a frame
abbrev pub AreEnds : List ℕ → ℕ → List ℕ → Type 0
AreEnds bytes last [] = Unit {0}
AreEnds bytes last (end ∷ ends) = (last < end) × IsPlace bytes end × AreEnds bytes end ends

-- what a refusal says of a file: it is truncated there; or it is whole, and that is a bad end; or it has such a cut,
-- of more morsels than are allowed; or, out of memory, it has such a cut, of no more than are allowed
abbrev pub IsFaultOf : (ℕ → Type 0) → (List (List ℕ) → Type 0) → List ℕ → CutFault → Type 0
IsFaultOf IsBad IsIt bytes (Truncated place) = IsTruncatedAt bytes place
IsFaultOf IsBad IsIt bytes (NotABoundary end) = IsWhole bytes × IsBad end
IsFaultOf IsBad IsIt bytes TooManyMorsels = (runs : List (List ℕ)) × IsIt runs × (MOST_MORSELS < length runs)
IsFaultOf IsBad IsIt bytes OutOfMemory = (runs : List (List ℕ)) × IsIt runs × (length runs ≤ MOST_MORSELS)

-- what a refusal of `cut`, or of a `Cutter`, says
abbrev pub IsCutFault : ℕ → List ℕ → CutFault → Type 0
IsCutFault target bytes fault = IsFaultOf (λ _. ⊥) (λ runs. IsCutBy target runs bytes) bytes fault

-- what a refusal of `cut_at` says
abbrev pub IsCutAtFault : List ℕ → List ℕ → CutFault → Type 0
IsCutAtFault ends bytes fault = IsFaultOf (IsFirstBad bytes 0 ends) (λ runs. IsCutAt ends runs bytes) bytes fault

-- the first run of a cut by a target has this many bytes
pub record IsFirstRun (target : ℕ) (n : ℕ) (bytes : List ℕ) : Type 0 where
  pub within : n ≤ length bytes
  pub run : IsRun (take n bytes)
  pub shortest : HasNoShorter target (take n bytes)
  pub full : n < length bytes → target ≤ n
