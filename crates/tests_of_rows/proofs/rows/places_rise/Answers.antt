use Rattle.std.proofs.Common.{ltb, rules}
use Rattle.std.proofs.lemmas.List.Sorted.{answers_always}
use Rattle.row_types.specs.declared.order.OrderRow.{OrderRow}
use Rattle.order_table.proofs.RowsInOrder.{rising_from_answer}
use Rattle.tests_of_rows.proofs.Apart.{apart_where_rising}
use Rattle.tests_of_rows.proofs.rows.places_rise.Goals as goal

pub returns : goal.returns
returns c e =
    apart_where_rising (λ (row : OrderRow). row.place) (record { place = 0; order_no = 0; price = 0 }) _ (rising_from_answer (λ (row : OrderRow). row.place) _ _
    (c.is_sorted_by.ensures.cases (λ (x y : OrderRow). ltb x.place y.place) (answers_always _ _ _ (λ f a r h k. search rules))) e)
