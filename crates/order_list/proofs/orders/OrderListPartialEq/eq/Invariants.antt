use Rattle.std.proofs.Common.{◌≡◌, drop}
use Rattle.order_list.specs.SameOrders.{are_same_orders}
use Rattle.order_list.proofs.orders.OrderListPartialEq.eq.Given as goal

abbrev pub invariant-loop-index : goal.invariant-loop-index
invariant-loop-index g l = are_same_orders (drop l.index l.self) (drop l.index l.other) ≡ are_same_orders l.self l.other
