use Rattle.std.proofs.Common.{◌≡◌, ap, length, ◌∙◌, subst}
use Rattle.std.proofs.lemmas.Result.{IfOk-weaker}
use Rattle.std.specs.Result.{IfOk}
use Rattle.sinks.specs.Written.{IsWritten}
use Rattle.sinks.proofs.TextParts.{text_of_texts}
use Rattle.sinks.specs.TextParts.{are_texts, texts_in, together}
use Rattle.sinks.proofs.shares.put_share.Goals as goal

pub returns-then-is_short-clause-written : goal.returns-then-is_short-clause-written
returns-then-is_short-clause-written g c =
    subst (λ text. IsWritten g.K.Sink c.args.sink.now c.put_pieces.new.sink text c.put_pieces.result)
    (text_of_texts c.as_slice-then-is_short.result.now
    ∙ ap together (ap are_texts c.as_slice-then-is_short.ensures.value ∙ subst (λ made. IfOk made (λ texts. are_texts texts.items ≡ texts_in (g.P.Parts.texts c.args.parts.now) c.args.first c.args.count)) c.in-Ok.is c.requires.made))
    c.put_pieces.ensures.written

pub returns-then-is_short-clause-count : goal.returns-then-is_short-clause-count
returns-then-is_short-clause-count g c =
    IfOk-weaker c.put_pieces.result _ _
    (λ written is. is
    ∙ ap length (text_of_texts c.as_slice-then-is_short.result.now
    ∙ ap together (ap are_texts c.as_slice-then-is_short.ensures.value ∙ subst (λ made. IfOk made (λ texts. are_texts texts.items ≡ texts_in (g.P.Parts.texts c.args.parts.now) c.args.first c.args.count)) c.in-Ok.is c.requires.made)))
    c.put_pieces.ensures.count
