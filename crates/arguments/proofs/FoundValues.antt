-- What clap found, as its getters give it: texts, where values are from, and numbers.
use Rattle.std.proofs.Common.{arith, ◌≡◌, ◌∙◌, Bool, Option, Some, sym, ap, is_some, true, Bor, find, option_and_then, option_map, bytes_eq, ◌<◌, ◌≤◌, ◌^◌, ℕ}
use Rattle.std.proofs.Common.{false, List, None, refl, pos}
use Rattle.std.proofs.lemmas.Bool.Decides.{nat_tests}
use Rattle.clap.specs.Facts.{Entry}
use Rattle.clap.specs.Matches.{first_value, matched_of, ReadsOne, one_text}
use Rattle.clap.specs.Walk.{Row, Text, first_of, row_of, rows_of, one_of}
use Rattle.clap.specs.declared.parser.matches.Found.{Found}
use Rattle.clap.specs.declared.parser.matches.MatchedArg.{MatchedArg}
use Rattle.clap.specs.declared.parser.matches.ValueSource.{ValueSource}
use Rattle.clap.proofs.CallerLemmas.{some_of_text}
use Rattle.clap.proofs.WalkLemmas.{find_row, first_value-rows, one_text-rows}
use Rattle.arguments.specs.Arguments.{is_given, is_of_words, number_of}
use Rattle.std.specs.Str.Parse.{ExplainsUnsignedError, HasUnsignedDigitsIfOk, IsNumeral, ParsesUnsigned, starts_with_minus, without_leading_plus}
use Rattle.std.proofs.lemmas.Bool.{cases_Bool}
use Rattle.std.proofs.lemmas.Int.{ints}
use Rattle.clap.specs.Lexer.{without_minus}
use Rattle.clap.specs.Values.{IsSignedIn}

-- the getter has a text where clap found one
pub text_found : (f : Found) (id : Text) (o : Option (Bor Text)) → option_map (λ s. s.now) o ≡ first_value f id
    → is_some (first_of id (rows_of f)) ≡ true → is_some o ≡ true
text_found f id o given has = grind (arith, nat_tests, some_of_text, first_value-rows)

-- and the text that it unwraps to is the one that clap found
pub text_unwrapped : (f : Found) (id : Text) (o : Option (Bor Text)) (v : Bor Text) → option_map (λ s. s.now) o ≡ first_value f id
    → o ≡ Some v → first_of id (rows_of f) ≡ Some v.now
text_unwrapped f id o v given is = grind (arith, nat_tests, first_value-rows)

-- whether the words give an option is what the source of its value says
pub given_by_source : (f : Found) (id : Text) (o : Option ValueSource) (given : Bool)
    → o ≡ option_and_then (λ a. a.source) (matched_of f id) → is_of_words o ≡ given → given ≡ is_given id (rows_of f)
given_by_source f id o given is says =
    sym says ∙ ap is_of_words (is ∙ (same (find (λ (e : Entry). bytes_eq e.0.now id) f.entries.items)
    ∙ ap (option_and_then (λ (r : Row). r.source)) (sym (find_row f.entries.items id))))
  where
    same : (e : Option Entry) → option_and_then (λ (a : MatchedArg). a.source) (option_map (λ x. x.1) e)
        ≡ option_and_then (λ (r : Row). r.source) (option_map row_of e)
    same e = grind arith

-- ---- numbers that clap took as values, as its getters read them

-- the text is a number in the range
abbrev pub WritesNumberIn : ℕ → ℕ → Text → Type 0
WritesNumberIn least most text = IsNumeral 10 (without_leading_plus text) × (least ≤ number_of text) × (number_of text ≤ most)

-- clap found a number in the range under this name
abbrev pub HasNumberIn : ℕ → ℕ → Text → List Row → Type 0
HasNumberIn least most id rows = (text : Text) × (one_of id rows ≡ Some text) × WritesNumberIn least most text

plain_without_minus : (t : Text) → starts_with_minus t ≡ false → without_minus t ≡ t
plain_without_minus t e = grind arith

-- a text that passed a parser of signed numbers above zero writes such a number
pub signed_writes : (least most : ℕ) (t : Text) → 1 ≤ least → IsSignedIn (pos least) (pos most) t → WritesNumberIn least most (without_minus t)
signed_writes least most t some passed = grind (arith, nat_tests, cases_Bool, ints, plain_without_minus)

-- a getter of an unsigned integer of k bits reads the number that clap found
module _ (k least most : ℕ) (id : Text) (f : Found) (has : HasNumberIn least most id (rows_of f)) (fits : most < 2 ^ k) where
  abbrev Reads : Option ℕ → Type 0
  Reads r = (t : Text) → one_text f id ≡ Some t
      → ReadsOne (λ bs x. ParsesUnsigned k 10 bs x × ExplainsUnsignedError 10 bs x × HasUnsignedDigitsIfOk bs x) t r

  reads_number : (r : Option ℕ) → Reads r → r ≡ Some (number_of has.0)
  reads_number (Some v) reads = ap Some (reads has.0 (one_text-rows f id ∙ has.1)).0.1
  reads_number None reads = absurd ((reads has.0 (one_text-rows f id ∙ has.1)).1.0 (has.2.0, omega arith))

  pub integer_found : (r : Option ℕ) → Reads r → is_some r ≡ true
  integer_found r reads = rw (reads_number r reads) refl

  -- and the number that it unwraps to
  pub integer_unwrapped : (r : Option ℕ) (v : ℕ) → Reads r → r ≡ Some v
      → (least ≤ v) × (v ≤ most) × (option_map number_of (one_of id (rows_of f)) ≡ Some v)
  integer_unwrapped r v reads is = grind (arith, nat_tests, reads_number)
