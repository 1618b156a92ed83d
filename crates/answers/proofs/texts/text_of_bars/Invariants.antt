use Rattle.std.proofs.Common.{◌≡◌, take}
use Rattle.bars.specs.Texts.{bars_text}
use Rattle.time_and_sales.specs.Names.{names_by}
use Rattle.answers.proofs.texts.text_of_bars.Given as goal

-- the header and the lines so far
abbrev pub invariant-loop-bar : goal.invariant-loop-bar
invariant-loop-bar g l = l.bytes.items ≡ bars_text (names_by l.names) (take l.bar-index l.table)
