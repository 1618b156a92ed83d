-- What the buckets of a day share: its breaks, each once, and the selection of a query.
-- To be believed of a crate used by itself: the answer isn't defined by buckets.
use Rattle.std.specs.Prelude.{ℕ, suc, List, filter, sum}
use Rattle.std.specs.declared.alloc.Global.{Global}
use Rattle.base.specs.Among.{is_among}
use Rattle.base.specs.Least.{numbers_below}
use Rattle.probe.specs.declared.selection.Selection.{Selection}
use Rattle.time_and_sales.specs.Names.{name_of}
use Rattle.row_types.specs.declared.directory.DirectoryRow.{DirectoryRow}
use Rattle.meaning.specs.Meaning.{Meaning}
use Rattle.meaning.specs.Selected.{locates_of}

-- the numbers of a list, rising, each once: of those up to the sum of all, which none is above, those that it has
abbrev pub rising : List ℕ → List ℕ
rising numbers = filter (is_among numbers) (numbers_below (suc (sum numbers)))

-- the selection of a query over a directory with these rows
abbrev pub selection_of : Meaning → List DirectoryRow → Selection Global
selection_of query rows = record {
  locates = locates_of query.symbols (name_of rows);
  span = query.span;
  kinds = query.kinds;
}
