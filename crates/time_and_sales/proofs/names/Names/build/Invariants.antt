use Rattle.std.proofs.Common.{◌≡◌, ℕ, take}
use Rattle.time_and_sales.specs.Names.{last_row, last_row_of}
use Rattle.time_and_sales.proofs.names.Names.build.Given as goal

-- the names of the rows so far
abbrev pub invariant-loop-row : goal.invariant-loop-row
invariant-loop-row g l = (locate : ℕ) → last_row l.names locate ≡ last_row_of (take l.row-index l.rows) locate
