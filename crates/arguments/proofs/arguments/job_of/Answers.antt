use Rattle.std.proofs.Common.{◌∙◌, ap, codes, Some, rules}
use Rattle.clap.specs.Words.{found_of}
use Rattle.arguments.proofs.FoundValues.{text_found, text_unwrapped}
use Rattle.arguments.proofs.Whole.{whole}
use Rattle.arguments.proofs.arguments.job_of.Goals as goal

pub unwrap-file-requires : goal.unwrap-file-requires
unwrap-file-requires c =
    text_found (found_of c.args.matches.now) (codes "FILE") c.get_str.result c.get_str.ensures (whole c.args.matches.now c.requires).file

pub unwrap-query-requires : goal.unwrap-query-requires
unwrap-query-requires c =
    text_found (found_of c.args.matches.now) (codes "QUERY") c.get_str-2.result c.get_str-2.ensures (whole c.args.matches.now c.requires).query

pub returns : goal.returns
returns c = record {
  file = text_unwrapped (found_of c.args.matches.now) (codes "FILE") c.get_str.result _ c.get_str.ensures c.unwrap-file.ensures ∙ ap Some (search rules);
  query = text_unwrapped (found_of c.args.matches.now) (codes "QUERY") c.get_str-2.result _ c.get_str-2.ensures c.unwrap-query.ensures ∙ ap Some (search rules);
  morsel_given = c.is_given.ensures;
  settings = c.settings_of.ensures;
}
