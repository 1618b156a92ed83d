use Rattle.std.proofs.Common.{◌≡◌, ◌+◌, ◌*◌, ◌≤◌, List, false, filter, length, take, drop}
use Rattle.time_and_sales.specs.Names.{names_by}
use Rattle.time_and_sales.specs.Ranges.{is_behind, is_in_first}
use Rattle.time_and_sales.specs.Texts.{Sale, lines_text}
use Rattle.time_and_sales.proofs.SortedByPlace.{place_of}
use Rattle.sale_lines.proofs.sale_lines.SaleLinesParts.put.Given as goal

-- the lines of the sales so far were taken, and those of the sales behind the last are left; no line is longer than 96 bytes
abbrev pub invariant-loop-sale : goal.invariant-loop-sale
invariant-loop-sale g l =
    let sales : List Sale = filter (is_in_first place_of l.bounds) g.J.AllSales.sales in
    let behind : List Sale = filter (is_behind place_of l.last) sales in
    record {
      took : g.K.Sink.Took l.fn.sink l.sink (take l.written (lines_text (names_by l.self-inside.names.now) sales));
      left : drop l.written (lines_text (names_by l.self-inside.names.now) sales) ≡ lines_text (names_by l.self-inside.names.now) behind;
      within : l.written ≤ length (lines_text (names_by l.self-inside.names.now) sales);
      room : l.written + 96 * length behind ≤ 96 * length sales;
      whole : g.K.Sink.has_failed l.sink ≡ false;
    }

-- the sales that are left
abbrev pub decreases-loop-sale : goal.decreases-loop-sale
decreases-loop-sale g l = length (filter (is_behind place_of l.last) (filter (is_in_first place_of l.bounds) g.J.AllSales.sales))
