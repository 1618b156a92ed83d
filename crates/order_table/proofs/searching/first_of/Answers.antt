use Rattle.std.proofs.Common.{◌∙◌, subst, sym}
use Rattle.std.specs.Slice.{IsItemAt}
use Rattle.order_table.proofs.SearchedRows.{found_itself, found_another, found_none}
use Rattle.order_table.proofs.searching.first_of.Goals as goal
use Rattle.order_table.proofs.searching.first_of.Goals.{in_default-via-in-Some+else-reference, in_default-via-in_default}

pub returns-in-Some : goal.returns-in-Some
returns-in-Some g c =
    found_itself g.R.Referenced.reference_of c.args.rows.now c.args.reference c.requires c.point_of-at.result c.point_of-at.ensures
    c.in-Some.row.now c.in-Some.ensures.lookup.3.0 c.in-Some.ensures.lookup.1 (sym c.reference.ensures ∙ c.if-reference.true)

pub returns-in_default : goal.returns-in_default
returns-in_default g c = elim c.in_default.branch [
  | in_default-via-in-Some+else-reference w ↦
      found_another g.R.Referenced.reference_of c.args.rows.now c.args.reference c.requires c.point_of-at.result c.point_of-at.ensures
      w.in-Some.row.now w.in-Some.ensures.lookup.3.0 w.in-Some.ensures.lookup.1 (λ same. w.if-reference.false (w.reference.ensures ∙ same))
  | in_default-via-in_default w ↦
      found_none g.R.Referenced.reference_of c.args.rows.now c.args.reference c.requires c.point_of-at.result c.point_of-at.ensures
      (subst (IsItemAt c.args.rows.now c.point_of-at.result) w.in_default.is c.get.ensures.lookup).3
]
