use Rattle.std.proofs.Common.{◌∙◌, Some, ap, eqb, option_map, sym}
use Rattle.std.specs.List.{find}
use Rattle.row_types.specs.declared.order.OrderRow.{OrderRow}
use Rattle.order_list.specs.ShortRows.{row_of_lean}
use Rattle.order_list.proofs.SearchedRows.{find_wide, none_below}
use Rattle.order_list.proofs.rising_rows.RisingRows.first.Goals as goal

pub returns-then-order_no-self : goal.returns-then-order_no-self
returns-then-order_no-self c =
    none_below c.self.inside.origin c.self.inside.rows.now c.args.order_no c.if-order_no-self.true
    ∙ ap (find (λ (other : OrderRow). eqb other.order_no c.args.order_no)) c.self.view_is

pub returns-in-Some : goal.returns-in-Some
returns-in-Some c =
    let origin = c.self.inside.origin in
    ap Some c.row.ensures ∙ sym (ap (option_map (row_of_lean origin)) c.in-Some.ensures)
    ∙ find_wide origin c.self.inside.rows.now c.args.order_no c.if-order_no-self.false
    ∙ ap (find (λ (other : OrderRow). eqb other.order_no c.args.order_no)) c.self.view_is

pub returns-in-None : goal.returns-in-None
returns-in-None c =
    let origin = c.self.inside.origin in
    sym (ap (option_map (row_of_lean origin)) c.in-None.ensures)
    ∙ find_wide origin c.self.inside.rows.now c.args.order_no c.if-order_no-self.false
    ∙ ap (find (λ (other : OrderRow). eqb other.order_no c.args.order_no)) c.self.view_is
