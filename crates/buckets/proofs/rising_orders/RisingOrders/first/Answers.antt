use Rattle.std.proofs.Common.{◌∙◌, ◌<◌, ◌≤◌, ap, eqb, get_or, length, subst, sym}
use Rattle.std.specs.List.{find}
use Rattle.std.specs.List.Sorted.{IsNonDecreasingBy}
use Rattle.row_types.specs.declared.order.OrderRow.{OrderRow}
use Rattle.order_table.specs.Orders.{first_row}
use Rattle.buckets.specs.RisingLists.{RisingList}
use Rattle.buckets.proofs.RisingRows.{ListPoint, first_in, first_past, lasts_do_not_fall}
use Rattle.buckets.proofs.rising_orders.RisingOrders.first.Goals as goal

pub point_of-at-requires : goal.point_of-at-requires
point_of-at-requires c =
    subst (IsNonDecreasingBy (λ (list : RisingList). list.last)) (sym c.as_slice.ensures.value)
    (lasts_do_not_fall _ c.self.invariant.apart)

pub returns-in-Some : goal.returns-in-Some
returns-in-Some c =
    let q = c.args.order_no in
    let at = c.point_of-at.result in
    let list = c.in-Some.list.now in
    let there = c.deref.ensures.value in
    c.first.ensures
    ∙ ap (λ (p : RisingList). find (λ (row : OrderRow). eqb row.order_no q) p.rows) (c.in-Some.ensures.lookup.1 ∙ ap (λ l. get_or l at list) there)
    ∙ first_in _ q c.self.invariant at list (subst (λ l. ListPoint l q at) c.as_slice.ensures.value c.point_of-at.ensures)
    (subst (λ l. at < length l) there c.in-Some.ensures.lookup.3.0)
    ∙ ap (λ l. first_row l q) c.self.view_is

pub returns-in-None : goal.returns-in-None
returns-in-None c =
    let q = c.args.order_no in
    let at = c.point_of-at.result in
    first_past _ q c.self.invariant at (subst (λ l. ListPoint l q at) c.as_slice.ensures.value c.point_of-at.ensures)
    (subst (λ l. length l ≤ at) c.deref.ensures.value c.in-None.ensures.lookup.3)
    ∙ ap (λ l. first_row l q) c.self.view_is
