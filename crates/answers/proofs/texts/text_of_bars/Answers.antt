use Rattle.std.proofs.Common.{ap, get_or}
use Rattle.time_and_sales.specs.Names.{names_by}
use Rattle.bars.proofs.LastBar.{no_bar}
use Rattle.bar.specs.declared.bar.Bar.{Bar}
use Rattle.bars.specs.Texts.{bar_line, bars_header}
use Rattle.answers.proofs.AnswerOfSteps.{line_more}
use Rattle.answers.proofs.texts.text_of_bars.Goals as goal

pub loop-bar-preserved : goal.loop-bar-preserved
loop-bar-preserved g c =
    line_more bars_header (λ (b : Bar). bar_line b (names_by c.args.names.now b.locate)) c.args.table.now c.loop-bar.bar-index no_bar
    c.loop-bar-test.true c.loop-bar.invariant c.in_ok-write_bar.ensures.ok
    (ap (bar_line (get_or c.args.table.now c.loop-bar.bar-index no_bar)) c.name.ensures)
