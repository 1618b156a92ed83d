-- What was fed to a `Cutter`.
-- To be believed of a crate used by itself.
use Rattle.std.specs.Prelude.{◌≡◌, ℕ, ◌+◌, ◌<◌, ◌≤◌, List, ◌++◌, length, take, drop, All}
use Rattle.std.specs.List.{concat}
use Rattle.base.specs.declared.limits.TheConstants.{LONGEST_FILE, MOST_MORSELS}
use Rattle.cutting.specs.Cutting.{HasNoShorter}
use Rattle.day_file.specs.Cuts.{IsRun}
use Rattle.day_file.specs.Frames.{IsWhole}

-- what contracts see of a `Cutter`: its target, the runs that it keeps, how many bytes the full runs after those had,
-- and the bytes after all full runs
pub record CutterView : Type 0 where
  pub target : ℕ
  pub cut : List (List ℕ)
  pub past : ℕ
  pub rest : List ℕ

-- how many bytes were fed to a cutter
abbrev pub fed_length : CutterView → ℕ
fed_length cutter = (length (concat cutter.cut) + cutter.past) + length cutter.rest

-- the shortest run that has at least `target` bytes
pub record IsFullRun (target : ℕ) (bytes : List ℕ) : Type 0 where
  pub run : IsRun bytes
  pub shortest : HasNoShorter target bytes
  pub full : target ≤ length bytes

-- these bytes may have been fed to a cutter: full runs, of which it keeps those that a cut may have, and the bytes
-- after them. Nothing was fed to a new one, and each `feed` appends what its source gave. Of full runs that it doesn't
-- keep only the number of their bytes is known.
pub record HasFed (cutter : CutterView) (fed : List ℕ) : Type 0 where
  pub beyond : List (List ℕ)
  pub full : All (IsFullRun cutter.target) (cutter.cut ++ beyond)
  pub past : length (concat beyond) ≡ cutter.past
  pub most : 0 < cutter.past → MOST_MORSELS ≤ length cutter.cut
  pub joined : fed ≡ concat (cutter.cut ++ beyond) ++ cutter.rest

-- what a cutter keeps between its calls: some bytes, perhaps none, were fed to it, no more than the longest file has,
-- and of those after the full runs the first `whole`, which are fewer than the target, are known to be whole frames
pub record IsCutting (cutter : CutterView) (whole : ℕ) : Type 0 where
  pub fed : List ℕ
  pub has : HasFed cutter fed
  pub below : whole < cutter.target
  pub within : whole ≤ length cutter.rest
  pub front : IsWhole (take whole cutter.rest)
  pub bound : fed_length cutter ≤ LONGEST_FILE

-- a run of `end` bytes was taken off the head of the rest
pub record IsTaken (end : ℕ) (old new : CutterView) : Type 0 where
  pub fed : (fed : List ℕ) → HasFed old fed → HasFed new fed
  pub bytes : length (concat new.cut) + new.past ≡ (length (concat old.cut) + old.past) + end
  pub target : new.target ≡ old.target
  pub rest : new.rest ≡ drop end old.rest
