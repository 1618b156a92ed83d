use Rattle.std.proofs.Common.{◌≡◌, ℕ, ◌<◌, List, length, get_or}
use Rattle.time_and_sales.specs.Names.{names_by}
use Rattle.sale_lines.proofs.made_names.made_names.Given as goal

-- the names of the locates so far
abbrev pub invariant-loop-locate : goal.invariant-loop-locate
invariant-loop-locate l = record {
  count : length l.made.items ≡ l.locate;
  each : (locate : ℕ) (other : List ℕ) → locate < length l.made.items → get_or l.made.items locate other ≡ names_by l.names locate;
}
