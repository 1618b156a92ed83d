use Rattle.std.proofs.Common.{◌≡◌, ℕ, ◌≤◌, length}
use Rattle.std.specs.HashMap.{spare}
use Rattle.time_and_sales.specs.Names.{last_row}
use Rattle.time_and_sales.proofs.LastRows.{rows_of, with_rows}
use Rattle.time_and_sales.proofs.names.Names.unite.Given as goal

-- with the rows that are still to come, the names are those of both; there is room for these rows
abbrev pub invariant-loop-locate : goal.invariant-loop-locate
invariant-loop-locate g l = record {
  both : (locate : ℕ) → with_rows (last_row l.self locate) (rows_of l.locate-iterator) locate
      ≡ with_rows (last_row l.initial.self locate) (rows_of l.other.rows.entries) locate;
  room : length l.locate-iterator ≤ spare l.self.rows;
}
