use Rattle.std.proofs.Common.{◌≡◌}
use Rattle.query.proofs.CutAtSeparator.{left, words_left, IsInText}
use Rattle.query.proofs.words.Words.next.Given as goal

abbrev pub invariant-loop-self : goal.invariant-loop-self
invariant-loop-self l =
    record {
      words : words_left l.self-inside.at l.self-inside.rest ≡ l.fn.self;
      text : IsInText l.self-inside.at l.self-inside.rest;
    }

abbrev pub decreases-loop-self : goal.decreases-loop-self
decreases-loop-self l = left l.self-inside.rest
