use Rattle.std.proofs.Common.{ap, ap₂, codes, true, ◌≡◌, ◌∙◌}
use Rattle.std.proofs.lemmas.Result.{IfOk-weaker}
use Rattle.clap.specs.Words.{Shape, app_of, new_app, with_rule}
use Rattle.clap.specs.Simple.{app_of_fields, on_top}
use Rattle.arguments.proofs.arguments.words_command.Goals as goal

pub returns : goal.returns
returns c =
    let with_version = on_top (λ (shape : Shape). record shape { has_version = true }) in
    let start_is : app_of c.after_help.result ≡ with_version (new_app (codes "itch_bars")) =
    ap app_of_fields c.after_help.ensures ∙ (ap app_of_fields c.override_usage.ensures ∙ (ap app_of_fields c.about.ensures
    ∙ (ap app_of_fields c.version.ensures ∙ ap with_version c.new.ensures.app))) in
    IfOk-weaker c.arg-2.result _ _ (λ command h. h.shape c.required_argument.ensures.local
    ∙ ap₂ with_rule (c.in_ok-arg.ensures.shape c.required_argument-file.ensures.local
    ∙ ap₂ with_rule start_is c.required_argument-file.ensures.rule) c.required_argument.ensures.rule) c.arg-2.ensures
