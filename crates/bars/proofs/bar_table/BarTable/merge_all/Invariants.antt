use Rattle.std.proofs.Common.{◌≡◌, Bor, List, take, flat_map, All}
use Rattle.bar.specs.declared.bar.Bar.{Bar}
use Rattle.bar.specs.OneBar.{IsTraded}
use Rattle.bars.proofs.bar_table.BarTable.merge_all.Given as goal

-- the bars of the tables so far
abbrev pub invariant-loop-table : goal.invariant-loop-table
invariant-loop-table g l = record {
  all : l.bars.items ≡ flat_map (λ (t : Bor (List Bar)). t.now) (take l.table-index l.tables);
  traded : All IsTraded l.bars.items;
}
