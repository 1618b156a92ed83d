-- What clap finds for an argument that is required or has a default, in a command that excludes nothing.
use Rattle.std.proofs.lemmas.Bool.Decides.{nat_tests}
use Rattle.std.proofs.Common.{◌≡◌, ◌∙◌, ◌<◌, ◌≤◌, ℕ, zero, suc, true, false, List, [], ◌∷◌, Some, None, refl, sym, ap, inl, inr, arith, length}
use Rattle.std.proofs.Common.{find, option_map, slice_get, Bor, All, slice_index_or, bytes_eq}
use Rattle.std.proofs.lemmas.Bool.{cases_Bool}
use Rattle.std.proofs.lemmas.List.Elements.{All-get_or}
use Rattle.std.proofs.lemmas.Slice.Eq.{bytes_eq-Decides}
use Rattle.clap.specs.Built.{IsAuto, IsParsedFrom, SameRules}
use Rattle.clap.specs.Facts.{Entry, EntryPasses, HasId, PassesArg, args_of, groups_of, least_values, parser_of_value}
use Rattle.clap.specs.Matches.{found_of, one_text}
use Rattle.clap.specs.Values.{Accepts, read_as, reading_of}
use Rattle.clap.specs.declared.builder.action.ArgAction.TheVariants.{Set}
use Rattle.clap.specs.declared.builder.arg.Arg.{Arg}
use Rattle.clap.specs.declared.builder.command.Command.{Command}
use Rattle.clap.specs.declared.builder.command.Command.TheViews.{out-Command}
use Rattle.clap.specs.declared.builder.value_parser.Reading.{Reading}
use Rattle.clap.specs.declared.builder.value_parser.ValueParser.{ValueParser}
use Rattle.clap.specs.declared.parser.matches.ArgMatches.{ArgMatches}
use Rattle.clap.specs.declared.parser.matches.MatchedArg.{MatchedArg}
use Rattle.clap.proofs.CallerLemmas.{entry_by_id, same_rules_by_id}

-- the first of some values that all pass
first_passes : (P : List ℕ → Type 0) (how : Reading) (vs : List (Bor (List ℕ))) → 0 < length vs → All (λ v. P v.now) vs
    → (t : List ℕ) × (option_map (λ s. read_as how s.now) (slice_get vs 0) ≡ Some (read_as how t)) × P t
first_passes P how [] some all = absurd (omega arith)
first_passes P how (v ∷ vs) some all = (v.now, refl, All-get_or (λ (w : Bor (List ℕ)). P w.now) (v ∷ vs) 0 v some all)

-- an id that is there is found
finds_id : (xs : List Entry) (id : List ℕ) (i : ℕ) → i < length xs → ((d : Entry) → bytes_eq (slice_index_or xs i d).0.now id ≡ true)
    → (x : MatchedArg) × (option_map (λ e. e.1) (find (λ e. bytes_eq e.0.now id) xs) ≡ Some x)
finds_id [] id i lt at = absurd (omega arith)
finds_id (x ∷ xs) id zero lt at = (x.1, rw (at x) refl)
finds_id (x ∷ xs) id (suc i) lt at =
    let rest = finds_id xs id i (omega arith) at in
    elim (cases_Bool (bytes_eq x.0.now id)) [ inl e ↦ (x.1, rw e refl) | inr e ↦ (rest.0, rw e rest.1) ]

-- the argument at place k takes one value or more, by the parser q
pub record IsValued (c : Command) (k : ℕ) (d : Arg) (q : ValueParser) : Type 0 where
  pub here : k < length (args_of c)
  pub set : (slice_index_or (args_of c) k d).action ≡ Some Set
  pub delim : (slice_index_or (args_of c) k d).val_delim ≡ None
  pub least : 1 ≤ least_values (slice_index_or (args_of c) k d)
  pub parser : (slice_index_or (args_of c) k d).value_parser ≡ Some q

-- no other argument has the id of the argument at place k, and it is not empty or of a flag of clap's own
pub record IsNamed (c : Command) (k : ℕ) (d : Arg) : Type 0 where
  pub unique : (j : ℕ) (e : Arg) → j < length (args_of c)
      → bytes_eq (slice_index_or (args_of c) j e).id.now (slice_index_or (args_of c) k d).id.now ≡ true → j ≡ k
  pub named : (slice_index_or (args_of c) k d).id.now ≡ [] → ⊥
  pub own : IsAuto (slice_index_or (args_of c) k d) → ⊥

module _ (old : Command) (m : ArgMatches) (p : IsParsedFrom old m) (no_groups : groups_of p.built ≡ [])
    (k : ℕ) (d : Arg) (q : ValueParser) (valued : IsValued old k d q) (name : IsNamed old k d) where
  abbrev arg : Arg
  arg = slice_index_or (args_of old) k d

  -- of an entry of the argument's id
  module _ (e : Entry) (key : e.0.now ≡ arg.id.now) (pass : EntryPasses p.built e) where
    -- each argument of the built command with this id has the rules of the caller's
    rules : (j : ℕ) (x : Arg) → j < length (args_of p.built) → slice_index_or (args_of p.built) j x ≡ x → bytes_eq x.id.now e.0.now ≡ true → SameRules arg x
    rules j x within is same = same_rules_by_id old m p k d valued.here name.unique name.own j x within is (rw key at same)

    -- the entry is no group's, and has a value
    no_group : e.1.is_group ≡ true → ⊥
    no_group group = grind (arith, nat_tests)

    full : 0 < length e.1.vals.items
    full = elim pass.1 [
      | inl group ↦ absurd (no_group group.0)
      | inr (inl has) ↦ has
      | inr (inr (inl (_, any))) ↦ let is_set = (rules any.0 any.1 any.2 any.3 any.4.0).action Set valued.set in absurd (cc)
      | inr (inr (inr any)) ↦
          let s = rules any.0 any.1 any.2 any.3 any.4.0 in
          let one = s.least valued.set valued.least in grind (arith, s.val_delim, valued.delim)
    ]

    -- a value of the entry passed the caller's parser
    passes : (v : List ℕ) → PassesArg p.built e.0.now v → Accepts arg.ignore_case q v
    passes v any =
        let s = rules any.0 any.1 any.2 any.3 any.4.0 in
        rw (s.ignore_case, ap parser_of_value (s.parser q valued.parser)) at any.4.1

    -- and is read as that parser says
    reads : e.1.reading ≡ reading_of q
    reads = elim pass.4 [
      | inl group ↦ absurd (no_group group)
      | inr any ↦ sym any.4.1 ∙ ap reading_of (ap parser_of_value ((rules any.0 any.1 any.2 any.3 any.4.0).parser q valued.parser))
    ]

    entry_reads : (t : List ℕ) × (option_map (λ s. read_as e.1.reading s.now) (slice_get e.1.vals.items 0) ≡ Some (read_as (reading_of q) t))
        × Accepts arg.ignore_case q t
    entry_reads =
        let all : All (λ v. PassesArg p.built e.0.now v.now) e.1.vals.items = elim pass.0 [ inl group ↦ absurd (no_group group) | inr vals ↦ vals ] in
        let got = first_passes (PassesArg p.built e.0.now) e.1.reading e.1.vals.items full all in
        (got.0, got.1 ∙ ap (λ (r : Reading). Some (read_as r got.0)) reads, passes got.0 got.2)

  -- an argument that has an entry has a text that passed its parser, and is read as that parser says
  pub valued_reads : (out-Command p.built).has_globals ≡ false → HasId (found_of m) arg.id.now
      → (t : List ℕ) × (one_text (found_of m) arg.id.now ≡ Some (read_as (reading_of q) t)) × Accepts arg.ignore_case q t
  valued_reads globals there =
      let id = arg.id.now in
      let found = finds_id (found_of m).entries.items id there.0 there.1 there.2 in
      let got = entry_by_id (EntryPasses p.built) (found_of m).entries.items id found.0 (p.parsed globals).values found.1 in
      let read = entry_reads got.0 ((bytes_eq-Decides got.0.0.now id).0 got.2) got.3 in
      let text : option_map (λ s. read_as found.0.reading s.now) (slice_get found.0.vals.items 0) ≡ Some (read_as (reading_of q) read.0) =
      ap (λ (y : MatchedArg). option_map (λ s. read_as y.reading s.now) (slice_get y.vals.items 0)) (sym got.1) ∙ read.1 in
      (read.0, rw found.1 text, read.2)
