use Rattle.std.proofs.Common.{rules, ltb}
use Rattle.std.proofs.lemmas.List.Sorted.{answers_always}
use Rattle.order_table.specs.Orders.{OrderRow}
use Rattle.order_table.proofs.RowsInOrder.{rising_from_answer}
use Rattle.order_table.proofs.sorting.rises.Goals as goal

pub returns : goal.returns
returns c =
    rising_from_answer (λ (row : OrderRow). row.order_no) _ _
    (c.is_sorted_by.ensures.cases (λ (x y : OrderRow). ltb x.order_no y.order_no) (answers_always _ _ _ (λ f a r h k. search rules)))
