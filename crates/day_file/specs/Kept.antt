-- What a `Cut` keeps of its morsels.
-- To be believed of a crate used by itself: the inputs of scans are defined by `numbered`.
use Rattle.std.specs.Prelude.{◌≡◌, ℕ, ◌+◌, ◌≤◌, List, [], ◌∷◌, length, map, All}
use Rattle.std.specs.List.{concat}
use Rattle.base.specs.declared.limits.TheConstants.{LONGEST_FILE, MOST_MORSELS}
use Rattle.base.specs.Among.{AreBytes}
use Rattle.day_file.specs.Cuts.{IsRun, MorselView}

-- the bytes of each morsel
abbrev pub runs_of : List MorselView → List (List ℕ)
runs_of morsels = map (λ morsel. morsel.bytes) morsels

-- these runs as morsels, of which the first has this number and begins at this place
abbrev pub numbered : ℕ → ℕ → List (List ℕ) → List MorselView
numbered number start [] = []
numbered number start (run ∷ runs) =
    record { number = number; start = start; bytes = run } ∷ numbered (number + 1) (start + length run) runs

-- these are the morsels of a cut into these runs
pub record AreMorsels (runs : List (List ℕ)) (morsels : List MorselView) : Type 0 where
  pub are : morsels ≡ numbered 0 0 runs
  pub each : All IsRun runs
  pub bytes : All AreBytes runs
  pub few : length runs ≤ MOST_MORSELS
  pub within : length (concat runs) ≤ LONGEST_FILE

-- what a `Cut` keeps: its morsels, and how many bytes they have
pub record IsKept (morsels : List MorselView) (total : ℕ) : Type 0 where
  pub are : AreMorsels (runs_of morsels) morsels
  pub total_is : total ≡ length (concat (runs_of morsels))
