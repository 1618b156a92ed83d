-- Bars in the slots of a grid of locates and intervals.
-- Derived: no public clause cites it.
use Rattle.std.specs.Prelude.{◌≡◌, ℕ, ◌+◌, ◌-◌, ◌*◌, ◌/◌, ◌<◌, ◌≤◌, ◌^◌, List, [], ◌∷◌, length, get_or, Option, Some, None}
use Rattle.std.specs.List.{flat_map}
use Rattle.bar.specs.declared.bar.Bar.{Bar}
use Rattle.bars.specs.Steps.{no_bar}
use Rattle.bar_lines.specs.declared.grid.Grid.{Grid}

-- the column of a start
abbrev pub column : Grid → ℕ → ℕ
column grid start = (start - grid.start) * grid.scale / 2 ^ 64

-- the slot is that of the bar's locate and start
pub record IsIn (grid : Grid) (bar : Bar) (slot : ℕ) : Type 0 where
  pub locate : grid.locate ≤ bar.locate
  pub narrow : column grid bar.start < grid.columns
  pub is : slot ≡ (bar.locate - grid.locate) * grid.columns + column grid bar.start

-- the bar of a slot, if it has one
abbrev pub bar_in : List Bar → Option ℕ → List Bar
bar_in bars None = []
bar_in bars (Some number) = get_or bars number no_bar ∷ []

-- the bars of all slots, in the order of the slots
abbrev pub bars_in : List Bar → List (Option ℕ) → List Bar
bars_in bars slots = flat_map (bar_in bars) slots

-- the number of each slot is that of a bar that belongs there
abbrev pub AreInSlots : Grid → List Bar → List (Option ℕ) → Type 0
AreInSlots grid bars slots = (slot number : ℕ) → slot < length slots → get_or slots slot None ≡ Some number
    → (number < length bars) × IsIn grid (get_or bars number no_bar) slot
