use Rattle.std.proofs.Common.{Some, true, ap}
use Rattle.clap.specs.Words.{Rule}
use Rattle.clap.specs.declared.builder.action.ArgAction.TheVariants.{Set}
use Rattle.arguments.proofs.arguments.required_argument.Goals as goal

pub returns-clause-rule : goal.returns-clause-rule
returns-clause-rule c =
    rw (c.help.ensures, c.action.ensures, c.required.ensures)
    (ap (λ (r : Rule). record r { required = true; action = Some Set }) c.new.ensures.rule)

pub returns-clause-local : goal.returns-clause-local
returns-clause-local c = rw (c.help.ensures, c.action.ensures, c.required.ensures) c.new.ensures.optional.1
