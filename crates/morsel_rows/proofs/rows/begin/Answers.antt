use Rattle.std.proofs.Common.{◌∙◌, arith, sym}
use Rattle.morsel_rows.proofs.TakenRows.{has_taken}
use Rattle.morsel_rows.proofs.rows.begin.Goals as goal

pub returns-then-is_some-clause-begun : goal.returns-then-is_some-clause-begun
returns-then-is_some-clause-begun g c =
    has_taken c.args.partitions.now.items c.args.number c.index.result.now
    (omega (arith, c.if-number-len.true, c.len.ensures)) c.index.ensures (sym c.is_some.ensures ∙ c.if-is_some.true)
