use Rattle.std.proofs.Common.{[], ◌∷◌, ◌++◌, append_assoc, append-nil, ap, map, subst, sym, ◌∙◌}
use Rattle.order_list.specs.Filters.{IsFilterOf}
use Rattle.order_table.specs.Orders.{OrderRow}
use Rattle.buckets.proofs.needed.add_orders_of.Goals as goal

pub loop-row-preserved : goal.loop-row-preserved
loop-row-preserved c executed ordered was =
    let (seen, is, all) = c.loop-row.invariant executed ordered was in (
      seen ++ c.in-Some.row.order_no ∷ [],
      c.add_order.ensures executed seen is,
      append_assoc seen (c.in-Some.row.order_no ∷ []) _ ∙ ap (λ l. seen ++ map (λ (row : OrderRow). row.order_no) l) (sym c.in-Some.ensures.steps) ∙ all,
    )

pub returns : goal.returns
returns c executed ordered was =
    let (seen, is, all) = c.loop-row.invariant executed ordered was in
    let none = ap (λ l. seen ++ map (λ (row : OrderRow). row.order_no) l) c.in-None.ensures.steps.0 in
    subst (λ l. IsFilterOf executed l c.loop-row.filter) (sym (append-nil seen) ∙ sym none ∙ all) is
