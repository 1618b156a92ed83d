use Rattle.std.proofs.Common.{◌+◌, ◌≤◌, get_or, subst}
use Rattle.std.specs.List.{All}
use Rattle.row_types.specs.declared.order.OrderRow.{OrderRow}
use Rattle.order_list.specs.ShortRows.{offset_of}
use Rattle.order_list.proofs.SearchedRows.{least_wide, none}
use Rattle.order_list.proofs.rising_rows.RisingRows.least.Goals as goal

pub returns : goal.returns
returns c =
    let inside = c.self.inside in
    rw (c.from.ensures, c.offset.ensures.offset) (subst (All (λ (row : OrderRow). inside.origin.order_no + offset_of (get_or inside.rows.now 0 none) ≤ row.order_no)) c.self.view_is
    (least_wide inside.origin inside.rows.now c.self.invariant.2 none c.self.invariant.1))
