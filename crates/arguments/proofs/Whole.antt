-- A parse of the program's command line that succeeds has found all that a job has.
use Rattle.std.proofs.lemmas.Bool.Decides.{nat_tests}
use Rattle.std.proofs.Common.{◌≡◌, ◌∙◌, ◌<◌, ◌≤◌, ◌&&◌, ℕ, Bool, true, false, not, List, [], ◌∷◌, Option, Some, None, refl, sym, ap, subst, inl, inr, arith}
use Rattle.std.proofs.Common.{length, is_some, map, codes, pos, bytes_eq}
use Rattle.std.specs.List.{IsDistinct, list_all, slice_index_or}
use Rattle.std.proofs.lemmas.Bool.{both_ways}
use Rattle.std.proofs.lemmas.List.{get_or-map, length-map}
use Rattle.std.proofs.lemmas.Map.Keys.{apart_from_distinct}
use Rattle.std.proofs.lemmas.Slice.Eq.{bytes_eq-Decides}
use Rattle.base.specs.declared.limits.TheConstants.{LARGEST_MORSEL, MOST_GATHERERS, MOST_PARTITIONS, MOST_WORKERS}
use Rattle.clap.specs.Built.{IsParsedFrom, IsPlain, IsPlainArg}
use Rattle.clap.specs.Facts.{args_of, groups_of, least_values, unwrap_or_range}
use Rattle.clap.specs.Matches.{found_of}
use Rattle.clap.specs.Simple.{App, app_of, has_plain_fields}
use Rattle.clap.specs.Texts.{items_of}
use Rattle.clap.specs.Values.{Accepts, read_as, reading_of}
use Rattle.clap.specs.Walk.{Row, Rule, Text, first_of, is_empty, is_free_arg, is_simple_arg, one_of, rows_of, rule_of}
use Rattle.clap.specs.declared.builder.action.ArgAction.TheVariants.{Set}
use Rattle.clap.specs.declared.builder.arg.Arg.{Arg}
use Rattle.clap.specs.declared.builder.command.Command.{Command}
use Rattle.clap.specs.declared.builder.command.Command.TheViews.{out-Command}
use Rattle.clap.specs.declared.builder.range.ValueRange.{ValueRange}
use Rattle.clap.specs.declared.builder.value_parser.ValueParser.{ValueParser}
use Rattle.clap.specs.declared.builder.value_parser.ValueParser.TheVariants.{Signed, Unsigned}
use Rattle.clap.specs.declared.parser.matches.ArgMatches.{ArgMatches}
use Rattle.clap.proofs.CallerLemmas.{default_present, required_has_value}
use Rattle.clap.proofs.SimpleLemmas.{is_false, is_nil}
use Rattle.clap.proofs.TakesLemmas.{each_rule}
use Rattle.clap.proofs.WalkLemmas.{both, first_value-rows, one_text-rows}
use Rattle.arguments.specs.Arguments.{gatherers_rule, morsel_rule, partitions_rule, required_rule, the_app, workers_rule}
use Rattle.arguments.proofs.Found.{IsNamed, IsValued, valued_reads}
use Rattle.arguments.proofs.FoundValues.{HasNumberIn, signed_writes}

-- clap found all that a job has
pub record IsWhole (rows : List Row) : Type 0 where
  pub file : is_some (first_of (codes "FILE") rows) ≡ true
  pub query : is_some (first_of (codes "QUERY") rows) ≡ true
  pub workers : HasNumberIn 1 MOST_WORKERS (codes "workers") rows
  pub morsel : HasNumberIn 1 LARGEST_MORSEL (codes "morsel") rows
  pub partitions : HasNumberIn 1 MOST_PARTITIONS (codes "partitions") rows
  pub gatherers : HasNumberIn 1 MOST_GATHERERS (codes "gatherers") rows

abbrev the_rules : List Rule
the_rules = required_rule (codes "FILE") ∷ required_rule (codes "QUERY") ∷ workers_rule ∷ morsel_rule ∷ partitions_rule ∷ gatherers_rule ∷ []

is_none : {X : Type 0} (o : Option X) → not (is_some o) ≡ true → o ≡ None
is_none o e = grind arith

-- what the tests of an argument say of it
record IsPlainly (a : Arg) : Type 0 where
  pub plain : IsPlainArg a
  pub ifs : a.default_vals_ifs.items ≡ []
  pub delim : a.val_delim ≡ None

plainly : (a : Arg) → is_simple_arg a ≡ true → is_free_arg a ≡ true → IsPlainly a
plainly a simple free =
    record { plain = grind (arith, both, is_false, is_nil); ifs = grind (arith, both, is_nil); delim = grind (arith, both, is_none) }

some_arg : (xs : List Arg) → 0 < length xs → Arg
some_arg [] lt = absurd (omega arith)
some_arg (x ∷ xs) lt = x

-- no id is empty or of a flag of clap's own
abbrev stands_alone : Text → Bool
stands_alone id = not (is_empty id) && (not (bytes_eq id (codes "help")) && not (bytes_eq id (codes "version")))

is_not : (id other : Text) → not (bytes_eq id other) ≡ true → id ≡ other → ⊥
is_not id other e same = both_ways _ (is_false _ e) ((bytes_eq-Decides id other).1 same)

ids_differ : IsDistinct bytes_eq (map (λ (r : Rule). r.id) the_rules)
unfolding IsDistinct
ids_differ = grind (arith, nat_tests)

module _ (c : Command) (line : app_of c ≡ the_app) where
  rules_are : map rule_of (args_of c) ≡ the_rules
  rules_are = ap (λ (a : App). a.top.rules) line

  six : length (args_of c) ≡ 6
  six = sym (length-map (args_of c) rule_of) ∙ ap length rules_are

  rule_at : (k : ℕ) (d : Arg) → k < 6 → rule_of (slice_index_or (args_of c) k d) ≡ slice_index_or the_rules k (rule_of d)
  rule_at k d lt = let same = get_or-map rule_of (args_of c) k d (rule_of d) (rw six lt) in grind (arith, rules_are)

  each : (p : Rule → Bool) → list_all p the_rules ≡ true → (k : ℕ) (d : Arg) → k < 6 → p (rule_of (slice_index_or (args_of c) k d)) ≡ true
  each p passes k d lt = each_rule p (args_of c) (ap (list_all p) rules_are ∙ passes) k d (rw six lt)

  plain_at : (k : ℕ) (d : Arg) → k < 6 → IsPlainly (slice_index_or (args_of c) k d)
  plain_at k d lt = plainly (slice_index_or (args_of c) k d) (each (λ r. r.is_simple) refl k d lt) (each (λ r. r.is_free) refl k d lt)

  plain_fields : has_plain_fields (out-Command c) ≡ true
  plain_fields = ap (λ (a : App). a.top.is_plain) line

  is_plain : IsPlain c
  is_plain = grind (arith, nat_tests, both, plain_fields, plain_at, six, is_nil)

  no_globals : (out-Command c).has_globals ≡ false
  no_globals = grind (arith, nat_tests, both, plain_fields, is_false)

  -- no two arguments have one id
  apart : (j k : ℕ) (e d : Arg) → j < k → k < 6 → (slice_index_or (args_of c) j e).id.now ≡ (slice_index_or (args_of c) k d).id.now → ⊥
  apart j k e d less lt same = grind (arith, nat_tests, get_or-map, both_ways, apart_from_distinct, ids_differ, bytes_eq-Decides, rule_at)

  named : (k : ℕ) (d : Arg) → k < 6 → IsNamed c k d
  named k d lt =
      let id = (slice_index_or (args_of c) k d).id.now in
      let alone : stands_alone id ≡ true = each (λ r. stands_alone r.id) refl k d lt in
      let filled = both _ _ alone in
      let flags = both _ _ filled.1 in
      record {
        unique = λ j e low same.
            let one = (bytes_eq-Decides (slice_index_or (args_of c) j e).id.now id).0 same in
            let small : j < 6 = rw (← six) low in grind (arith, apart j k e d, apart k j d e);
        named = λ empty. absurd (both_ways _ (is_false _ filled.0) (ap is_empty empty));
        own = λ auto. elim auto [ inl h ↦ is_not _ _ flags.0 h | inr h ↦ is_not _ _ flags.1 h ];
      }

  least_one : (k : ℕ) (d : Arg) → k < 6 → 1 ≤ least_values (slice_index_or (args_of c) k d)
  least_one k d lt =
      let one = is_none (slice_index_or (args_of c) k d).num_vals (each (λ r. not (is_some r.range)) refl k d lt) in
      subst (λ (range : Option ValueRange). 1 ≤ (unwrap_or_range range).start_inclusive) (sym one) (omega arith)

  module _ (m : ArgMatches) (p : IsParsedFrom c m) where
    no_groups : groups_of p.built ≡ []
    no_groups = (p.from.plain is_plain).1

    -- a required argument has a value
    has_value : (k : ℕ) (d : Arg) → k < 6 → (slice_index_or the_rules k (rule_of d)).required ≡ true
        → (slice_index_or the_rules k (rule_of d)).action ≡ Some Set
        → is_some (first_of (slice_index_or the_rules k (rule_of d)).id (rows_of (found_of m))) ≡ true
    has_value k d lt required set =
        let name = named k d lt in
        let at = rule_at k d lt in
        let given = required_has_value c m p is_plain no_globals (ap (λ (a : App). a.top.subcommand_negates_reqs) line) k d (rw six lt)
        (ap (λ (r : Rule). r.required) at ∙ required)
        (ap (λ (r : Rule). r.action) at ∙ set) (plain_at k d lt).delim (least_one k d lt) name.unique name.named name.own in
        grind (arith, first_value-rows (found_of m) (slice_index_or (args_of c) k d).id.now)

    -- an argument with a default has a text that its parser takes
    has_text : (k : ℕ) (d : Arg) (q : ValueParser) → k < 6 → 0 < length (slice_index_or the_rules k (rule_of d)).defaults
        → (slice_index_or the_rules k (rule_of d)).action ≡ Some Set → (slice_index_or the_rules k (rule_of d)).parser ≡ Some q
        → (t : Text) × (one_of (slice_index_or the_rules k (rule_of d)).id (rows_of (found_of m)) ≡ Some (read_as (reading_of q) t))
        × Accepts (slice_index_or (args_of c) k d).ignore_case q t
    has_text k d q lt some set parser =
        let a = slice_index_or (args_of c) k d in
        let at = rule_at k d lt in
        let valued : IsValued c k d q = record {
          here = rw six lt;
          set = ap (λ (r : Rule). r.action) at ∙ set;
          delim = (plain_at k d lt).delim;
          least = least_one k d lt;
          parser = ap (λ (r : Rule). r.parser) at ∙ parser;
        } in
        let filled : 0 < length (items_of a.default_vals) = rw (← length-map (items_of a.default_vals) (λ s. s.now), ap (λ (r : Rule). r.defaults) at) some in
        let there = default_present c m p no_globals k d (rw six lt) ((plain_at k d lt).ifs, filled) in
        let read = valued_reads c m p no_groups k d q valued (named k d lt) (p.from.globals ∙ no_globals) there in (
          read.0,
          subst (λ (id : Text). one_of id (rows_of (found_of m)) ≡ Some (read_as (reading_of q) read.0)) (ap (λ (r : Rule). r.id) at)
              (sym (one_text-rows (found_of m) a.id.now) ∙ read.1),
          read.2,
        )

    -- so all that a job has is there
    whole_of : IsWhole (rows_of (found_of m))
    whole_of =
        let d = some_arg (args_of c) (rw six (omega arith)) in
        let workers = has_text 2 d (Signed (pos 1) (pos MOST_WORKERS)) (omega arith) (omega arith) refl refl in
        let morsel = has_text 3 d (Unsigned 1 LARGEST_MORSEL) (omega arith) (omega arith) refl refl in
        let partitions = has_text 4 d (Signed (pos 1) (pos MOST_PARTITIONS)) (omega arith) (omega arith) refl refl in
        let gatherers = has_text 5 d (Signed (pos 1) (pos MOST_GATHERERS)) (omega arith) (omega arith) refl refl in
        record {
          file = has_value 0 d (omega arith) refl refl;
          query = has_value 1 d (omega arith) refl refl;
          workers = (_, workers.1, signed_writes 1 MOST_WORKERS workers.0 (omega arith) workers.2);
          morsel = (_, morsel.1, (morsel.2.0, morsel.2.2, morsel.2.3));
          partitions = (_, partitions.1, signed_writes 1 MOST_PARTITIONS partitions.0 (omega arith) partitions.2);
          gatherers = (_, gatherers.1, signed_writes 1 MOST_GATHERERS gatherers.0 (omega arith) gatherers.2);
        }

pub whole : (m : ArgMatches) → ((c : Command) × (app_of c ≡ the_app) × IsParsedFrom c m) → IsWhole (rows_of (found_of m))
whole m parsed = whole_of parsed.0 parsed.1 m parsed.2
