use Rattle.std.proofs.Common.{None, Some, arith}
use Rattle.std.proofs.lemmas.List.{get_or-set_same}
use Rattle.morsel_rows.proofs.rows.put_empty.Goals as goal

pub returns-clause-begun : goal.returns-clause-begun
returns-clause-begun g c =
    let now = c.lengthen.new.partitions in (
      c.in_ok-empty.empty,
      get_or-set_same now.items c.args.number (Some c.in_ok-empty.empty) None
          (omega (arith, c.requires.below, c.in_ok-lengthen.ensures.long, now.ok.0)),
    )
