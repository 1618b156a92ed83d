use Rattle.std.proofs.Common.{ap, length, arith}
use Rattle.time_and_sales.specs.Names.{names_by}
use Rattle.bar_lines.proofs.RangeTexts.{count_of_texts}
use Rattle.bar_lines.proofs.bar_lines.BarLinesParts.count.Goals as goal

pub returns-clause-count : goal.returns-clause-count
returns-clause-count g c =
    let here = count_of_texts (names_by c.self.inside.names.now) g.J.AllBars.bars c.self.inside.bounds.items in
    omega (arith, here, ap length c.self.view_is, c.len.ensures, c.self.inside.bounds.ok.0)
