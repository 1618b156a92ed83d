-- Runs of whole frames, and what contracts see of the morsels made of them.
-- To be believed.
use Rattle.std.specs.Prelude.{ℕ, ◌<◌, ◌==◌, ◌&&◌, Bool, List, [], ◌∷◌, length, take, nat_eq}
use Rattle.std.specs.Cmp.Lexicographic.{pointwise}
use Rattle.std.specs.List.{concat}
use Rattle.day_file.specs.Frames.{IsWhole}

-- one or more whole frames
pub record IsRun (bytes : List ℕ) : Type 0 where
  pub some : 0 < length bytes
  pub whole : IsWhole bytes

-- the number of bytes before the run of this number
abbrev pub start_of : List (List ℕ) → ℕ → ℕ
start_of runs number = length (concat (take number runs))

-- the rest as a run, if there is any
abbrev pub rest_run : List ℕ → List (List ℕ)
rest_run [] = []
rest_run (byte ∷ bytes) = (byte ∷ bytes) ∷ []

-- what contracts see of a morsel: its number in its cut, the number of bytes before it, its bytes
pub record MorselView : Type 0 where
  pub number : ℕ
  pub start : ℕ
  pub bytes : List ℕ

-- both morsels have one number, begin at one place, and have the same bytes
abbrev pub is_same_morsel : MorselView → MorselView → Bool
is_same_morsel a b = (a.number == b.number) && (a.start == b.start) && pointwise nat_eq a.bytes b.bytes
