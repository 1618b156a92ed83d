use Rattle.std.proofs.Common.{◌∙◌, sym, ap, arith}
use Rattle.std.proofs.lemmas.Grind.{common_steps}
use Rattle.query.proofs.CutAtSeparator.{next_word, words_left}
use Rattle.query.proofs.words.Words.next.Goals as goal

pub returns-then-not-is_empty : goal.returns-then-not-is_empty
returns-then-not-is_empty c =
    sym c.loop-self.invariant.words ∙ ap (words_left c.loop-self.self-inside.at) c.in-Some.is
    ∙ next_word _ c.in-Some.text.now c.cut.result.0.now c.cut.result.1 c.cut.ensures.parts (grind (arith, common_steps))
