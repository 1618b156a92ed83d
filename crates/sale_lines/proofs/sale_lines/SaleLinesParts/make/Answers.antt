use Rattle.std.proofs.Common.{sym, ◌∙◌}
use Rattle.std.proofs.lemmas.Result.{IfOk-weaker}
use Rattle.time_and_sales.specs.Names.{names_by}
use Rattle.time_and_sales.specs.Texts.{Sale, sale_line}
use Rattle.sale_lines.proofs.RangesJoined.{text_of_part}
use Rattle.time_and_sales.proofs.SortedByPlace.{place_of}
use Rattle.sale_lines.proofs.sale_lines.SaleLinesParts.make.Goals as goal

pub returns : goal.returns
returns g c =
    let lines = c.self.inside in
    let sales = g.J.AllSales.sales in
    IfOk-weaker c.range_lines.result _ _ (λ text made.
    made sales c.self.invariant.whole.by_place c.self.invariant.whole.all
    ∙ sym (text_of_part place_of (λ (sale : Sale). sale_line sale (names_by lines.names.now sale.locate)) sales lines.bounds.items c.deref.result.now
    c.args.part c.args.self.now c.deref.ensures.value c.self.view_is c.requires)) c.range_lines.ensures
