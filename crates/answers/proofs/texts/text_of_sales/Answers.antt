use Rattle.std.proofs.Common.{ap, get_or}
use Rattle.row_types.specs.declared.trade.Sale.{Sale}
use Rattle.time_and_sales.specs.Names.{names_by}
use Rattle.time_and_sales.specs.Texts.{sale_line, sales_header}
use Rattle.time_and_sales.proofs.SortedByPlace.{no_sale}
use Rattle.answers.proofs.AnswerOfSteps.{line_more}
use Rattle.answers.proofs.texts.text_of_sales.Goals as goal

pub loop-sale-preserved : goal.loop-sale-preserved
loop-sale-preserved g c =
    line_more sales_header (λ (s : Sale). sale_line s (names_by c.args.names.now s.locate)) c.args.sales.now c.loop-sale.sale-index no_sale
    c.loop-sale-test.true c.loop-sale.invariant c.in_ok-write_sale.ensures.ok
    (ap (sale_line (get_or c.args.sales.now c.loop-sale.sale-index no_sale)) c.name.ensures)
