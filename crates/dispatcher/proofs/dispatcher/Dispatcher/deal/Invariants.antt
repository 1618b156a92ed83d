use Rattle.std.proofs.Common.{◌≡◌, ◌-◌, [], All, length, map}
use Rattle.std.specs.List.{range_with_len}
use Rattle.dispatcher.specs.Rule.{unused_view}
use Rattle.dispatcher.specs.Seats.{number, IsSeatOf, IsUnused}
use Rattle.dispatcher.proofs.dispatcher.Dispatcher.deal.Given as goal

abbrev pub invariant-loop : goal.invariant-loop
invariant-loop g l = record {
  rest_own : l.rest.table_id ≡ l.self.table.shared.table_id;
  rest : l.rest.me ≡ (unused_view (range_with_len l.counter (l.self.seats - l.counter)), []);
  count : length l.list.items ≡ l.counter;
  numbers : map number l.list.items ≡ range_with_len 0 l.counter;
  own : All (IsSeatOf l.self) l.list.items;
  unused : All IsUnused l.list.items;
}
