use Rattle.std.proofs.Common.{◌+◌, ◌-◌, ◌≤◌, get_or, length, subst}
use Rattle.std.specs.List.{All}
use Rattle.row_types.specs.declared.order.OrderRow.{OrderRow}
use Rattle.order_list.specs.ShortRows.{offset_of}
use Rattle.order_list.proofs.SearchedRows.{greatest_wide, none}
use Rattle.order_list.proofs.rising_rows.RisingRows.greatest.Goals as goal

pub returns-clause-greatest : goal.returns-clause-greatest
returns-clause-greatest c =
    let inside = c.self.inside in
    rw (c.from.ensures, c.offset.ensures.offset) (subst (All (λ (row : OrderRow). row.order_no ≤
    inside.origin.order_no + offset_of (get_or inside.rows.now (length inside.rows.now - 1) none))) c.self.view_is
    (greatest_wide inside.origin inside.rows.now c.self.invariant.2 none c.self.invariant.1))
