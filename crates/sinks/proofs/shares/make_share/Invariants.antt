use Rattle.std.proofs.Common.{◌≡◌}
use Rattle.sinks.specs.TextParts.{are_texts, texts_in}
use Rattle.sinks.proofs.shares.make_share.Given as goal

-- the texts so far
abbrev pub invariant-loop-number : goal.invariant-loop-number
invariant-loop-number g l = are_texts l.texts.items ≡ texts_in (g.P.Parts.texts l.parts) l.first l.number
