use Rattle.std.proofs.Common.{rules, ltb}
use Rattle.std.proofs.lemmas.List.Sorted.{IsPartitionPoint-from_clause, IsPartitionedBy-ltb}
use Rattle.order_table.proofs.searching.point_of.Goals as goal

pub returns-else-is_point : goal.returns-else-is_point
returns-else-is_point g c =
    let f = g.R.Referenced.reference_of in
    IsPartitionPoint-from_clause (λ row. ltb (f row) c.args.reference) _ c.partition_point.result
    c.partition_point.ensures.partitioned (IsPartitionedBy-ltb f _ c.args.reference c.requires) (λ a r p called. search rules)
