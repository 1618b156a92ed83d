use Rattle.std.proofs.Common.{◌≡◌, ◌<◌, ◌∙◌, ap, eqb, option_map, rules, subst, sym, AllPairs, find, arith}
use Rattle.std.proofs.lemmas.Grind.{common_steps}
use Rattle.order_table.specs.Orders.{OrderRow, first_repeated, repeated_of}
use Rattle.order_table.proofs.Repeats.{distinct_as_given, none_repeated, repeated_as_given}
use Rattle.order_table.proofs.RowsInOrder.{first_as_given, first_is_least, in_order_from_rising}
use Rattle.order_table.proofs.table.OrderTable.of_vec.Goals as goal

pub returns-then-rises-clause-table : goal.returns-then-rises-clause-table
returns-then-rises-clause-table g c = λ q.
    let rising = subst (AllPairs (λ (x y : OrderRow). x.order_no < y.order_no)) c.deref.ensures.value (c.rises.ensures c.if-rises.true) in
    ap (find (λ (row : OrderRow). eqb row.order_no q)) c.new.ensures ∙ first_is_least c.args.rows.items q (in_order_from_rising c.args.rows.items rising)

pub returns-then-rises-clause-repeated : goal.returns-then-rises-clause-repeated
returns-then-rises-clause-repeated g c =
    let rising = subst (AllPairs (λ (x y : OrderRow). x.order_no < y.order_no)) c.deref.ensures.value (c.rises.ensures c.if-rises.true) in
    sym (ap (option_map repeated_of) (none_repeated c.args.rows.items rising))

pub first_repeated-requires-clause-distinct : goal.first_repeated-requires-clause-distinct
first_repeated-requires-clause-distinct g c =
    rw c.deref-2.ensures.value (distinct_as_given c.args.rows.items c.put_in_order.new.rows.items c.put_in_order.ensures.permutation c.requires)

pub returns-clause-table : goal.returns-clause-table
returns-clause-table g c = λ q.
    ap (find (λ (row : OrderRow). eqb row.order_no q)) c.new-2.ensures
    ∙ first_as_given c.args.rows.items c.put_in_order.new.rows.items q c.requires c.put_in_order.ensures.permutation c.put_in_order.ensures.in_order

pub returns-clause-repeated : goal.returns-clause-repeated
returns-clause-repeated g c =
    let told : c.map-repeated.result ≡ option_map repeated_of c.first_repeated.result = search rules in
    told ∙ ap (option_map repeated_of) (c.first_repeated.ensures ∙ ap first_repeated c.deref-2.ensures.value
    ∙ repeated_as_given c.args.rows.items c.put_in_order.new.rows.items c.requires c.put_in_order.ensures.permutation)

pub first_repeated-requires-clause-in_order : goal.first_repeated-requires-clause-in_order
first_repeated-requires-clause-in_order g c = grind (arith, common_steps)
