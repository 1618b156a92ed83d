use Rattle.std.proofs.Common.{Some, [], ap, ◌∷◌}
use Rattle.clap.specs.Words.{Rule}
use Rattle.clap.specs.declared.builder.action.ArgAction.TheVariants.{Set}
use Rattle.arguments.proofs.arguments.read_option.Goals as goal

pub returns-clause-local : goal.returns-clause-local
returns-clause-local c =
    rw (c.help.ensures, c.default_value.ensures, c.value_parser.ensures.others, c.action.ensures, c.value_name.ensures, c.long.ensures)
    c.new.ensures.optional.1

pub returns-clause-rule : goal.returns-clause-rule
returns-clause-rule c =
    let given = c.value_parser.ensures.given in
    rw (
      c.help.ensures,
      c.default_value.ensures,
      c.value_parser.ensures.others,
      given.1,
      given.2,
      c.action.ensures,
      c.value_name.ensures,
      c.long.ensures,
    )
    (ap (λ (r : Rule). record r {
      long = Some c.args.name.now;
      value_names = 1;
      action = Some Set;
      parser = Some c.args.parser;
      defaults = c.args.default.now ∷ [];
    }) c.new.ensures.rule)
