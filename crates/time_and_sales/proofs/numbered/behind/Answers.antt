use Rattle.std.proofs.Common.{rules, leb, ◌∙◌, ap, filter, sym}
use Rattle.std.proofs.lemmas.List.Sorted.{IsPartitionPoint-from_clause, IsPartitionedBy-leb}
use Rattle.time_and_sales.specs.Ranges.{is_behind}
use Rattle.time_and_sales.proofs.InRanges.{above_is_behind, all_behind_none, failing_back}
use Rattle.time_and_sales.proofs.numbered.behind.Goals as goal

pub returns-in-Some : goal.returns-in-Some
returns-in-Some g c =
    let number = g.N.Numbered.number_of in
    let items = c.args.items.now in
    let last = c.in-Some.last in
    let at = IsPartitionPoint-from_clause (λ item. leb (number item) last) items c.partition_point.result
    c.partition_point.ensures.partitioned (IsPartitionedBy-leb number items last c.requires) (λ a r q k. search rules) in
    c.split_at.ensures.back ∙ failing_back _ items c.partition_point.result c.partition_point.ensures.bound at
    ∙ above_is_behind number last items ∙ ap (λ o. filter (is_behind number o) items) (sym c.in-Some.is)

pub returns-in-None : goal.returns-in-None
returns-in-None g c = all_behind_none g.N.Numbered.number_of c.args.items.now ∙ ap (λ o. filter (is_behind g.N.Numbered.number_of o) c.args.items.now) (sym c.in-None.is)
