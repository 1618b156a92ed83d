-- When a total is refused.
-- To be believed of a crate used by itself.
use Rattle.std.specs.Prelude.{◌≡◌, ℕ}
use Rattle.gathering.specs.Views.{GatheringView, IsComplete, IsFirstMissing}
use Rattle.gathering.specs.declared.gather.TotalRefused.{TotalRefused}
use Rattle.gathering.specs.declared.gather.TotalRefused.TheVariants.{Missing, Memory}

-- the gathering comes back, and a task is missing, so that there is a first one; or memory ran out, and none is missing
abbrev pub IsRefusedFor : {W M A B C : Type 0} → GatheringView A → TotalRefused W M A B C → Type 0
IsRefusedFor g (Missing back) = (back ≡ g) × ((task : ℕ) × IsFirstMissing g task)
IsRefusedFor g (Memory back) = (back ≡ g) × IsComplete g
