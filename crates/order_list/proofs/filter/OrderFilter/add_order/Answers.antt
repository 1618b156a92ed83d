use Rattle.std.proofs.Common.{rules}
use Rattle.order_list.proofs.FilteredOrders.{order_added}
use Rattle.order_list.proofs.filter.OrderFilter.add_order.Goals.{then-may_have, else-may_have}
use Rattle.order_list.proofs.filter.OrderFilter.add_order.Goals as goal

pub returns : goal.returns
returns c executed ordered was = elim c.if-may_have.branch [
  | then-may_have w ↦ order_added executed ordered c.args.order_no c.args.self.now _ was
      (λ other has. c.insert-2.ensures.kept other (search rules)) (λ other has. search (w.insert.ensures.kept other has, rules))
      (search rules) (λ has. search rules)
  | else-may_have w ↦ order_added executed ordered c.args.order_no c.args.self.now _ was
      (λ other has. c.insert-2.ensures.kept other (search rules)) (λ other has. search rules) (search rules) (λ has. search rules)
]
