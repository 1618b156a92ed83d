use Rattle.std.proofs.Common.{ap₂, ◌∙◌}
use Rattle.std.proofs.lemmas.Result.{IfOk-weaker}
use Rattle.clap.specs.Words.{with_rule}
use Rattle.arguments.proofs.arguments.with_options.Goals as goal

pub returns : goal.returns
returns c =
    IfOk-weaker c.arg-4.result _ _ (λ command h. h.shape c.number_option-3.ensures.local
    ∙ ap₂ with_rule (c.in_ok-arg-3.ensures.shape c.number_option-2.ensures.local
    ∙ ap₂ with_rule (c.in_ok-arg-2.ensures.shape c.morsel_option.ensures.local
    ∙ ap₂ with_rule (c.in_ok-arg.ensures.shape c.number_option.ensures.local
    ∙ ap₂ with_rule c.requires c.number_option.ensures.rule) c.morsel_option.ensures.rule) c.number_option-2.ensures.rule)
    c.number_option-3.ensures.rule) c.arg-4.ensures
