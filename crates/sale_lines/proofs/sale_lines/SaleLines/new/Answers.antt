use Rattle.std.proofs.Common.{ℕ, ◌∙◌, ap, arith, flat_map, length, List}
use Rattle.time_and_sales.specs.Names.{names_by}
use Rattle.sale_lines.specs.SaleParts.{sale_texts}
use Rattle.time_and_sales.specs.Texts.{Sale, sale_line}
use Rattle.time_and_sales.proofs.InRanges.{length-greatest_so_far}
use Rattle.sale_lines.proofs.RangesJoined.{texts_of_all}
use Rattle.time_and_sales.proofs.SortedByPlace.{place_of, places_rise}
use Rattle.sale_lines.proofs.sale_lines.SaleLines.new.Goals as goal

pub invariant_of-result : goal.invariant_of-result
invariant_of-result g c = record {
  whole = record { by_place = c.requires.by_place; all = c.requires.all; times = c.requires.times; few = c.requires.few };
  made = c.in_ok-made.ensures;
  few = omega (
    arith,
    ap length c.in_ok-bounds.ensures,
    length-greatest_so_far 0 c.as_slice.result.now,
    ap length c.as_slice.ensures.value,
    c.in_ok-places.ensures,
    c.min.ensures,
  );
}

pub returns : goal.returns
returns g c =
    let name = names_by c.args.names.now in
    let sales = g.J.AllSales.sales in
    let numbers = c.as_slice.result.now in
    ap (λ (bounds : List ℕ). flat_map (λ (text : List ℕ). text) (sale_texts name sales bounds)) c.in_ok-bounds.ensures
    ∙ texts_of_all place_of (λ (sale : Sale). sale_line sale (name sale.locate)) sales numbers (places_rise sales c.requires.by_place)
