use Rattle.std.proofs.Common.{rules}
use Rattle.std.proofs.lemmas.List.Sorted.{answers_always}
use Rattle.order_table.proofs.RowsInOrder.{key_of, in_order_from_sorted}
use Rattle.order_table.proofs.sorting.put_in_order.Goals as goal

pub returns-clause-in_order : goal.returns-clause-in_order
returns-clause-in_order g c = in_order_from_sorted _ (c.sort_unstable_by_key.ensures.sorted key_of (answers_always _ _ _ (λ f a r h called. search rules)))
