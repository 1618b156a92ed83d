use Rattle.std.proofs.Common.{arith, [], take_all}
use Rattle.time_and_sales.specs.Names.{DirectoryRow}
use Rattle.time_and_sales.proofs.LastRows.{read_more}
use Rattle.time_and_sales.proofs.names.Names.build.Goals as goal

pub loop-row-preserved : goal.loop-row-preserved
loop-row-preserved g c = λ locate.
    let d : DirectoryRow = record { place = 0; locate = 0; stock = [] } in
    grind (arith, c.in_ok-keep_later.ensures.kept locate, c.loop-row.invariant locate, read_more c.args.rows.now c.loop-row.row-index d locate)

pub returns : goal.returns
returns g c = λ locate. grind (arith, c.loop-row.invariant locate, take_all)
