use Rattle.std.proofs.Common.{rules, ltb, ◌∙◌}
use Rattle.std.proofs.lemmas.List.Sorted.{IsNonDecreasingBy-drop, IsPartitionPoint-from_clause, IsPartitionedBy-ltb}
use Rattle.time_and_sales.proofs.InRanges.{failing_back, passing_front}
use Rattle.time_and_sales.proofs.numbered.parted.Goals as goal

pub returns : goal.returns
returns g c =
    let number = g.N.Numbered.number_of in
    let items = c.args.items.now in
    let i = c.partition_point.result in
    let at = IsPartitionPoint-from_clause (λ item. ltb (number item) c.args.number) items i
    c.partition_point.ensures.partitioned (IsPartitionedBy-ltb number items c.args.number c.requires) (λ a r q k. search rules) in
    record {
      below = c.split_at.ensures.front ∙ passing_front _ items i c.partition_point.ensures.bound at;
      others = c.split_at.ensures.back ∙ failing_back _ items i c.partition_point.ensures.bound at;
      rise = rw c.split_at.ensures.back (IsNonDecreasingBy-drop number i items c.requires);
    }
