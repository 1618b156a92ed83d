-- The lines of the bars of many tables, in parts.
-- Derived: no public clause cites it.
use Rattle.std.specs.Prelude.{ℕ, List, [], ◌∷◌, filter}
use Rattle.time_and_sales.specs.Ranges.{is_in_first}
use Rattle.bar.specs.declared.bar.Bar.{Bar}
use Rattle.bars.specs.Texts.{lines_text}

-- the lines of the bars in each range of locates, which begin at these bounds
abbrev pub range_texts : (ℕ → List ℕ) → List Bar → List ℕ → List (List ℕ)
range_texts name bars [] = []
range_texts name bars (low ∷ bounds) =
    lines_text name (filter (is_in_first (λ bar. bar.locate) (low ∷ bounds)) bars) ∷ range_texts name bars bounds
