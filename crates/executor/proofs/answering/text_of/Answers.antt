use Rattle.std.proofs.Common.{arith}
use Rattle.std.proofs.lemmas.Bool.Decides.{nat_tests}
use Rattle.bars.proofs.SumsAreBounded.{table_is_writable}
use Rattle.answers.proofs.SelectedSales.{listing_places, times_fit}
use Rattle.executor.proofs.answering.text_of.Goals as goal

pub text_of_sales-requires : goal.text_of_sales-requires
text_of_sales-requires g c = rw c.items-sales.ensures.value (times_fit c.args.listing.now c.requires.stamped)

pub of_sales-requires-clause-places : goal.of_sales-requires-clause-places
of_sales-requires-clause-places g c = listing_places c.items-sales.result.now c.items-sales.ensures.by_place

pub of_sales-requires-clause-width : goal.of_sales-requires-clause-width
of_sales-requires-clause-width g c =
    let within = c.query.invariant.width c.in-Bars.width c.in-Bars.is in (grind (arith, nat_tests), grind (arith, nat_tests))

pub text_of_bars-requires : goal.text_of_bars-requires
text_of_bars-requires g c =
    rw c.items.ensures.value (table_is_writable c.in-Bars.width c.items-sales.result.now c.in_ok-table-in-Bars.table c.in_ok-table-in-Bars.ensures.bars
    c.in_ok-table-in-Bars.ensures.traded (rw c.items-sales.ensures.value (times_fit c.args.listing.now c.requires.stamped)))
