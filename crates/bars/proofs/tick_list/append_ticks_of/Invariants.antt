use Rattle.std.proofs.Common.{◌≡◌, ◌+◌, ◌++◌, map, take, vec_capacity, vec_len}
use Rattle.bars.specs.Steps.{AreTraded, in_seconds, sale_of_tick}
use Rattle.bars.proofs.tick_list.append_ticks_of.Given as goal

-- the ticks of the sales so far stand behind those that there were, in the room that was there
abbrev pub invariant-loop-sale : goal.invariant-loop-sale
invariant-loop-sale l = record {
  ticks : map sale_of_tick l.ticks.items ≡ map sale_of_tick l.initial.ticks.items ++ map in_seconds (take l.sale-index l.sales);
  traded : AreTraded l.initial.ticks.items → AreTraded l.ticks.items;
  len : vec_len l.ticks ≡ vec_len l.initial.ticks + l.sale-index;
  room : vec_capacity l.ticks ≡ vec_capacity l.initial.ticks;
}
