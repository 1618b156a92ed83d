use Rattle.std.proofs.Common.{◌≡◌, ◌++◌}
use Rattle.std.proofs.lemmas.Result.{IfOk-weaker}
use Rattle.answers.specs.Answers.{told_by}
use Rattle.sinks.specs.Counted.{bytes_of, is_full}
use Rattle.runs.specs.Made.{told}
use Rattle.executor.proofs.CollectedTexts.{collected_is}
use Rattle.executor.proofs.keeping_texts.into_answer.Goals as goal

pub returns : goal.returns
returns g c =
    IfOk-weaker c.answer_of.result _ _
    (λ answer kept. collected_is (record { Took = λ a b xs. bytes_of b ≡ bytes_of a ++ xs; HasFlushed = λ sink. Unit {0}; has_failed = is_full })
    bytes_of (λ a b xs took. took) c.new-text.result c.hand_over-handed.new.sink c.hand_over-handed.result (told c.args.made) (told_by answer)
    c.new-text.ensures.bytes c.hand_over-handed.ensures.handed kept) c.answer_of.ensures
