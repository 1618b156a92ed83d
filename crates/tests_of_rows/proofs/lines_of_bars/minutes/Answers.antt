use Rattle.std.proofs.Common.{[], arith}
use Rattle.tests_of_rows.proofs.lines_of_bars.minutes.Goals as goal

pub of_ticks-requires-clause-sales : goal.of_ticks-requires-clause-sales
of_ticks-requires-clause-sales c =
    let are = rw c.as_slice.ensures.value at (c.in_ok-take_in.ensures.taken [] c.new-ticks.ensures) in
    (c.in_ok-sales.sales.items, are, c.in_ok-sales.ensures.places, omega (arith, c.in_ok-sales.ensures.count))

pub returns-clause-bars : goal.returns-clause-bars
returns-clause-bars c =
    let are = rw c.as_slice.ensures.value at (c.in_ok-take_in.ensures.taken [] c.new-ticks.ensures) in
    (c.in_ok-sales.sales.items, c.of_ticks.ensures.bars c.in_ok-sales.sales.items are, c.in_ok-sales.ensures.count)
