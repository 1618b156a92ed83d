use Rattle.std.proofs.Common.{ltb, rules}
use Rattle.std.proofs.lemmas.List.Sorted.{answers_always}
use Rattle.row_types.specs.declared.trade.Sale.{Sale}
use Rattle.order_table.proofs.RowsInOrder.{rising_from_answer}
use Rattle.time_and_sales.proofs.SortedByPlace.{place_of, no_sale}
use Rattle.tests_of_rows.proofs.Apart.{apart_where_rising}
use Rattle.tests_of_rows.proofs.lines_of_bars.places_rise.Goals as goal

pub returns : goal.returns
returns c e =
    apart_where_rising place_of no_sale _ (rising_from_answer place_of _ _
    (c.is_sorted_by.ensures.cases (λ (x y : Sale). ltb x.place y.place) (answers_always _ _ _ (λ f a r h k. search rules))) e)
