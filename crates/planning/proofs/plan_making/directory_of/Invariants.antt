use Rattle.std.proofs.Common.{◌≡◌, flat_map, take}
use Rattle.std.specs.Arc.{arc_value}
use Rattle.std.specs.declared.alloc.Global.{Global}
use Rattle.std.specs.declared.sync.Arc.{Arc}
use Rattle.morsel_rows.specs.Partitions.{MorselRowsView}
use Rattle.planning.proofs.plan_making.directory_of.Given as goal

-- those of the morsels so far
abbrev pub invariant-loop-morsel : goal.invariant-loop-morsel
invariant-loop-morsel l = l.rows.items ≡ flat_map (λ (morsel : Arc MorselRowsView Global). (arc_value morsel).directory) (take l.morsel-index l.morsels)
