use Rattle.std.proofs.Common.{◌++◌, ◌∙◌, ap, ap₂, subst, sym}
use Rattle.std.proofs.lemmas.Result.{err_from_is_err_and}
use Rattle.order_table.specs.Orders.{first_repeated}
use Rattle.probe.specs.Pricing.{first_unknown, priced}
use Rattle.day_rows.specs.Messages.{executions, order_rows, own_priced_sales}
use Rattle.day_rows.proofs.RowsByPlace.{executions_distinct, orders_distinct}
use Rattle.day_rows.proofs.Stamped.{fits_all}
use Rattle.morsel_rows.specs.Partitions.{PartitionView}
use Rattle.executor.specs.Steps.{IsReferenceFault}
use Rattle.executor.proofs.Steps.{fault_answers, has_partition, on_day, whole_partition}
use Rattle.executor.proofs.answering.trades_of.Goals as goal

pub unwrap-all-requires : goal.unwrap-all-requires
unwrap-all-requires g c = has_partition c.requires.0 c.partition.result _ c.requires.1 c.partition.ensures

pub price-requires-clause-orders : goal.price-requires-clause-orders
price-requires-clause-orders g c =
    let all = whole_partition c.requires.0 c.partition.result c.unwrap-all.result c.requires.1 c.partition.ensures c.unwrap-all.ensures in
    rw (ap (λ (p : PartitionView). p.orders) all) (orders_distinct c.requires.0 c.requires.1.by_place)

pub price-requires-clause-executions : goal.price-requires-clause-executions
price-requires-clause-executions g c =
    let all = whole_partition c.requires.0 c.partition.result c.unwrap-all.result c.requires.1 c.partition.ensures c.unwrap-all.ensures in
    rw (ap (λ (p : PartitionView). p.executions) all) (executions_distinct c.requires.0 c.requires.1.by_place)

pub returns-in_err-trades-clause-fault : goal.returns-in_err-trades-clause-fault
returns-in_err-trades-clause-fault g c =
    let exit = err_from_is_err_and c.from_residual.result c.from_residual.ensures.1 in
    rw (exit.1, exit.2)
    (on_day c.in_err-trades.field-0.0 _ _
    (λ fault is messages of query.
    let all = whole_partition messages c.partition.result c.unwrap-all.result of c.partition.ensures c.unwrap-all.ensures in
    fault_answers messages query fault (subst (λ (p : PartitionView). IsReferenceFault p.orders p.executions fault) all is))
    c.in_err-trades.ensures.fault)

pub returns-clause-trades : goal.returns-clause-trades
returns-clause-trades g c messages of =
    let all = whole_partition messages c.partition.result c.unwrap-all.result of c.partition.ensures c.unwrap-all.ensures in
    let are = c.in_ok-extend_from_slice.ensures.items ∙ ap₂ ◌++◌ c.in_ok-trades.ensures.sales c.own_priced.ensures
    ∙ ap (λ (p : PartitionView). priced p.orders p.executions ++ p.own_priced) all in
    record {
      repeated = ap (λ (p : PartitionView). first_repeated p.orders) (sym all) ∙ c.in_ok-trades.ensures.repeated;
      unknown = ap (λ (p : PartitionView). first_unknown p.orders p.executions) (sym all) ∙ c.in_ok-trades.ensures.unknown;
      are = are;
      stamped = rw are (fits_all (order_rows messages) (executions messages) (own_priced_sales messages) of.stamped.executions of.stamped.own_priced);
    }
