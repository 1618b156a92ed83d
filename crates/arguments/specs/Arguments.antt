-- The program's command line, as what clap reads of it, and the job that its words ask for.
-- To be believed.
use Rattle.std.specs.Prelude.{◌≡◌, ◌≢◌, ℕ, Bool, true, false, List, [], ◌∷◌, Option, Some, codes, find, option_map, pos, option_and_then, string_bytes, bytes_eq}
use Rattle.std.specs.Str.Parse.{digits_value, without_leading_plus}
use Rattle.base.specs.declared.limits.TheConstants.{LARGEST_MORSEL, LONGEST_FILE, MOST_GATHERERS, MOST_PARTITIONS, MOST_WORKERS}
use Rattle.clap.specs.Simple.{on_top}
use Rattle.clap.specs.Words.{App, IsAmong, Kinds, Row, Rule, Text, first_of, new_app, new_rule, one_of, with_rule}
use Rattle.clap.specs.declared.builder.action.ArgAction.TheVariants.{Set}
use Rattle.clap.specs.declared.builder.value_parser.ValueParser.{ValueParser}
use Rattle.clap.specs.declared.builder.value_parser.ValueParser.TheVariants.{Signed, Unsigned}
use Rattle.clap.specs.declared.error.kind.ErrorKind.{ErrorKind}
use Rattle.clap.specs.declared.error.kind.ErrorKind.TheVariants.{DisplayHelp, DisplayVersion}
use Rattle.clap.specs.declared.parser.matches.ValueSource.{ValueSource}
use Rattle.clap.specs.declared.parser.matches.ValueSource.TheVariants.{CommandLine}
use Rattle.outcomes.specs.declared.settings.Settings.{Settings}
use Rattle.arguments.specs.declared.arguments.Job.{Job}
use Rattle.arguments.specs.declared.arguments.WordsFault.{WordsFault}
use Rattle.arguments.specs.declared.arguments.WordsFault.TheVariants as fault

-- an argument of this name, which is required
abbrev pub required_rule : Text → Rule
required_rule name = record (new_rule name) { required = true; action = Some Set }

-- an option of this name, with a number that the parser takes, and this number if it is left out
abbrev pub number_rule : Text → ValueParser → Text → Rule
number_rule name parser default = record (new_rule name) {
  long = Some name;
  value_names = 1;
  action = Some Set;
  parser = Some parser;
  defaults = default ∷ [];
}

-- `--workers N`, from 1 to the most workers; 4 if it is left out
abbrev pub workers_rule : Rule
workers_rule = number_rule (codes "workers") (Signed (pos 1) (pos MOST_WORKERS)) (codes "4")

-- `--morsel BYTES`, from 1 to the largest morsel; 1,048,576 if it is left out
abbrev pub morsel_rule : Rule
morsel_rule = number_rule (codes "morsel") (Unsigned 1 LARGEST_MORSEL) (codes "1048576")

-- `--partitions N`, from 1 to the most partitions; 64 if it is left out
abbrev pub partitions_rule : Rule
partitions_rule = number_rule (codes "partitions") (Signed (pos 1) (pos MOST_PARTITIONS)) (codes "64")

-- `--gatherers N`, from 1 to the most gatherers; 1 if it is left out
abbrev pub gatherers_rule : Rule
gatherers_rule = number_rule (codes "gatherers") (Signed (pos 1) (pos MOST_GATHERERS)) (codes "1")

-- the program's command line without its options: it has `--version` and `-V`, a day file's path, and a query's
-- text
abbrev pub app_of_words : App
app_of_words = with_rule (with_rule
    (on_top (λ shape. record shape { has_version = true }) (new_app (codes "itch_bars")))
    (required_rule (codes "FILE"))) (required_rule (codes "QUERY"))

-- the program's command line: the words, and the options
abbrev pub the_app : App
the_app = with_rule (with_rule (with_rule (with_rule app_of_words
    workers_rule) morsel_rule) partitions_rule) gatherers_rule

-- the number that a text writes in decimal digits, with or without a leading plus
abbrev pub number_of : Text → ℕ
number_of text = digits_value 10 (without_leading_plus text)

-- the settings have the numbers that clap found, and the limit of a day file
pub record HasSettingsOf (rows : List Row) (settings : Settings) : Type 0 where
  pub workers : option_map number_of (one_of (codes "workers") rows) ≡ Some settings.crew.workers
  pub morsel : option_map number_of (one_of (codes "morsel") rows) ≡ Some settings.morsel
  pub partitions : option_map number_of (one_of (codes "partitions") rows) ≡ Some settings.parts
  pub gatherers : option_map number_of (one_of (codes "gatherers") rows) ≡ Some settings.crew.gatherers
  pub limit : settings.limit ≡ LONGEST_FILE

-- a value comes from the words, and is no default
abbrev pub is_of_words : Option ValueSource → Bool
is_of_words (Some CommandLine) = true
is_of_words _ = false

-- the words give the option of this name
abbrev pub is_given : Text → List Row → Bool
is_given id rows = is_of_words (option_and_then (λ r. r.source) (find (λ r. bytes_eq r.id id) rows))

-- the job has the path, the query and the numbers that clap found, and whether the words give the morsel
pub record IsJobOf (rows : List Row) (job : Job) : Type 0 where
  pub file : first_of (codes "FILE") rows ≡ Some (string_bytes job.file)
  pub query : first_of (codes "QUERY") rows ≡ Some (string_bytes job.query)
  pub morsel_given : job.morsel_given ≡ is_given (codes "morsel") rows
  pub settings : HasSettingsOf rows job.settings

-- the fault is help, or the version, only if that is among what clap may answer, and wrong words only if another
-- refusal is; running out of memory says nothing of the words
abbrev pub IsFaultOf : Kinds → WordsFault → Type 0
IsFaultOf kinds (fault.Help text) = IsAmong DisplayHelp kinds
IsFaultOf kinds (fault.Version text) = IsAmong DisplayVersion kinds
IsFaultOf kinds (fault.Wrong text) =
    (kind : ErrorKind) × (kind ≢ DisplayHelp) × (kind ≢ DisplayVersion) × IsAmong kind kinds
IsFaultOf kinds fault.Memory = Unit {0}
