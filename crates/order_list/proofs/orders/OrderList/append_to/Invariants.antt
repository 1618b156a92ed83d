use Rattle.std.proofs.Common.{◌≡◌, ◌+◌, ◌-◌, ◌++◌, ◌≤◌, length, take, vec_capacity, vec_len}
use Rattle.order_list.proofs.orders.OrderList.append_to.Given as goal

abbrev pub invariant-loop-index : goal.invariant-loop-index
invariant-loop-index g l = record {
  items : l.out.items ≡ l.fn.out.items ++ take l.index l.self;
  room : vec_len l.out + (length l.self - l.index) ≤ vec_capacity l.out;
}
