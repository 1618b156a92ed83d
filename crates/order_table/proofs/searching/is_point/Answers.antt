use Rattle.std.proofs.Common.{◌<◌, arith, length}
use Rattle.std.proofs.lemmas.Bool.{leb-true}
use Rattle.order_table.proofs.SearchedRows.{others_behind, smaller_before}
use Rattle.order_table.proofs.searching.is_point.Goals as goal

pub returns-then-reference : goal.returns-then-reference
returns-then-reference g c = λ more.
    let f = g.R.Referenced.reference_of in
    let rows = c.args.rows.now in
    let at = c.args.at in
    let q = c.args.reference in
    let some : 0 < at = omega (arith, c.if-at-eq0.false) in
    let within : at < length rows = omega (arith, c.if-rows-at.false) in (
      smaller_before f rows q c.requires at c.index-rows-at.result some within c.index-rows-at.is
          (omega (arith, c.reference.ensures, c.if-reference.true)),
      others_behind f rows q c.requires at c.index-rows-at-then-reference.result within c.index-rows-at-then-reference.is
          (omega (arith, c.reference-then-reference.ensures, leb-true _ _ more)),
    )
