use Rattle.std.specs.Prelude.{◌≡◌, Some, filter}
use Rattle.base.specs.Least.{numbers_below}
use Rattle.time_and_sales.specs.Names.{names_by}
use Rattle.meaning.specs.Selected.{has_name}
use Rattle.meaning.proofs.select.listed.Given as goal

abbrev pub invariant-loop-number : goal.invariant-loop-number
invariant-loop-number g l =
    l.rows.items ≡ filter (λ locate. has_name (Some l.symbols) (names_by l.names locate)) (numbers_below l.number)
