use Rattle.std.proofs.Common.{◌≡◌, filter_map, map, take}
use Rattle.std.specs.Arc.{arc_value}
use Rattle.time_and_sales.specs.Lent.{lent}
use Rattle.planning.specs.AllBuckets.{table_of}
use Rattle.planning.proofs.fault_and_tables.tables.Given as goal

-- the tables of the products so far
abbrev pub invariant-loop-product : goal.invariant-loop-product
invariant-loop-product l = lent l.tables.items ≡ filter_map table_of (map arc_value (take l.product-index l.products))
