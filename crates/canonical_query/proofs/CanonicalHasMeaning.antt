-- The canonical text of a query has that query as its meaning.
use Rattle.std.proofs.Common.{◌≡◌, ℕ, ◌+◌, ◌-◌, ◌*◌, ◌/◌, ◌%◌, ◌^◌, ◌<◌, ◌≤◌, Bool, true, false, cond, ◌&&◌, List, [], ◌∷◌, ◌++◌, length, Option, Some, None}
use Rattle.std.proofs.Common.{refl, ap, ◌∙◌, subst, arith, rules, nat_lt, nat_le, filter, length-append, not, codes, ◌==◌, fold, decimal}
use Rattle.std.specs.Char.{is_ascii_digit}
use Rattle.std.specs.List.{join_with_byte, list_all, All}
use Rattle.std.proofs.lemmas.Fmt.{digits_decimal, digits_value-decimal, length-decimal-le, decimal_nonempty}
use Rattle.std.proofs.lemmas.Str.Parse.{IsNumeralModel, numerals_by_fold}
use Rattle.std.proofs.lemmas.Slice.Eq.{bytes_eq-Decides}
use Rattle.std.proofs.lemmas.Bool.{and_from, and_parts, not-true, lt-ltb, leb-true, ne_eqb, eq-eqb, cases_lt, false_from_ne_true}
use Rattle.std.proofs.lemmas.Bool.Decides.{nat_tests}
use Rattle.std.proofs.lemmas.List.Elements.{All-weaker}
use Rattle.std.proofs.lemmas.List.Folds.{list_all-append}
use Rattle.std.proofs.lemmas.List.Splits.{slice_split_none, slice_split_at}
use Rattle.std.proofs.lemmas.List.Sums.{AllPass-from_list_all, list_all-from_AllPass}
use Rattle.base.specs.declared.limits.TheConstants.{SECONDS_OF_DAY}
use Rattle.query.specs.Words.{split_by, words_of_parts, words_from, words_of}
use Rattle.query.specs.Values.{number_from, count_of, unit_of, pair_at, clock_of, time_of, symbols_of, kinds_of}
use Rattle.meaning.specs.Meaning.{CanBeSpelled, Kinds, Meaning, Span, are_symbols, has_some, is_symbol_byte, is_symbol, is_width}
use Rattle.meaning.specs.declared.query.What.TheVariants.{Bars, Sales}
use Rattle.meaning.specs.declared.query.What.{What}
use Rattle.query.specs.Grammar.{Said, only, meaning_of, Conditions, Linked, Moment, Means, symbol, time, kind, done, further, any_moment, up_to, sales, bars}
use Rattle.canonical_query.specs.Canonical.{pair_text, clock_text, what_words, symbol_condition, time_condition, kind_letters, kind_condition}
use Rattle.canonical_query.specs.Canonical.{canonical, conditions_of, linked, moment_words}

-- ---- joined parts are the parts of what is joined

-- items that pass a test pass a weaker one
weaker : {X : Type 0} (p q : X → Bool) → ((x : X) → p x ≡ true → q x ≡ true) → (xs : List X) → list_all p xs ≡ true → list_all q xs ≡ true
weaker p q each xs h = grind (arith, nat_tests, list_all-from_AllPass, All-weaker, AllPass-from_list_all)

-- no byte is the separator
abbrev lacks : ℕ → List ℕ → Bool
lacks separator bytes = list_all (λ byte. not (byte == separator)) bytes

-- the same of each byte, as std says it of what it parts
others : (separator : ℕ) (bytes : List ℕ) → lacks separator bytes ≡ true → All (λ byte. (byte == separator) ≡ false) bytes
others separator bytes h = grind (arith, nat_tests, All-weaker, not-true, AllPass-from_list_all)

parts_joined : (separator : ℕ) (xs : List (List ℕ)) (x : List ℕ) → list_all (lacks separator) (x ∷ xs) ≡ true
    → split_by separator (join_with_byte separator (x ∷ xs)) ≡ x ∷ xs
parts_joined separator [] x h = slice_split_none (λ byte. byte == separator) x (others separator x (and_parts (lacks separator x) _ h).0)
parts_joined separator (y ∷ ys) x h =
    let apart = and_parts (lacks separator x) _ h in
    slice_split_at (λ byte. byte == separator) x separator _ (others separator x apart.0) (eq-eqb separator separator refl)
    ∙ ap (λ zs. x ∷ zs) (parts_joined separator ys y apart.1)

-- ---- the words of joined words

-- a word can stand in a text
abbrev is_plain : List ℕ → Bool
is_plain bytes = nat_lt 0 (length bytes) && lacks 32 bytes

plain_stay : (ws : List (List ℕ)) (at : ℕ) → list_all is_plain ws ≡ true → filter (λ w. nat_lt 0 (length w.bytes)) (words_of_parts at ws) ≡ words_of_parts at ws
plain_stay [] at h = refl
plain_stay (w ∷ ws) at h = grind (arith, rules, plain_stay ws (at + (length w + 1)))

words_joined : (w : List ℕ) (ws : List (List ℕ)) → list_all is_plain (w ∷ ws) ≡ true → words_of (join_with_byte 32 (w ∷ ws)) ≡ words_of_parts 0 (w ∷ ws)
unfolding words_from
words_joined w ws h = grind (arith, nat_tests, parts_joined, weaker, and_parts, plain_stay)

-- ---- numbers and symbols

abbrev number_on : ℕ → List ℕ → ℕ
number_on n digits = fold (λ value digit. 10 * value + (digit - 48)) n digits

own : IsNumeralModel (λ ds. list_all is_ascii_digit ds ≡ true) number_from
own = numerals_by_fold (λ ds. list_all is_ascii_digit ds ≡ true) (search rules) number_on (search rules)

decimal_value : (n : ℕ) → n < 2 ^ 64 → n < 10 ^ 5 → count_of (decimal n) ≡ Some n
unfolding count_of
decimal_value n small short =
    let few = length-decimal-le 5 n (omega arith) short small in
    grind (arith, nat_tests, decimal_nonempty n small, digits_decimal own n small, digits_value-decimal own n small)

decimal_plain : (n : ℕ) → n < 2 ^ 64 → is_plain (decimal n) ≡ true
decimal_plain n small = grind (arith, nat_tests, weaker, decimal_nonempty, digits_decimal, own)

-- a symbol has bytes, each of them a symbol's
symbol_parts : (name : List ℕ) → is_symbol name ≡ true → (nat_lt 0 (length name) ≡ true) × (list_all is_symbol_byte name ≡ true)
unfolding is_symbol
symbol_parts name h = (grind arith, grind arith)

symbol_plain : (name : List ℕ) → is_symbol name ≡ true → is_plain name ≡ true
symbol_plain name h = grind (arith, nat_tests, and_from, symbol_parts, weaker)

no_comma : (name : List ℕ) → is_symbol name ≡ true → lacks 44 name ≡ true
no_comma name h =
    weaker is_symbol_byte (λ byte. not (byte == 44)) (λ byte i. grind (arith, nat_tests)) name (symbol_parts name h).1

-- the text of symbols is a word
joined_plain : (name : List ℕ) (names : List (List ℕ)) → list_all is_symbol (name ∷ names) ≡ true → is_plain (join_with_byte 44 (name ∷ names)) ≡ true
joined_plain name [] h = grind (arith, symbol_plain)
joined_plain name (next ∷ names) h =
    let list : List ℕ = join_with_byte 44 (next ∷ names) in
    let whole = list_all-append (λ byte. not (byte == 32)) name (44 ∷ list) in
    grind (arith, nat_tests, symbol_plain name, joined_plain next names, length-append name (44 ∷ list))

symbols_spelled : (names : List (List ℕ)) → are_symbols names ≡ true
    → (symbols_of (join_with_byte 44 names) ≡ Some names) × (is_plain (join_with_byte 44 names) ≡ true)
unfolding symbols_of
symbols_spelled [] h = absurd (cc)
symbols_spelled (name ∷ names) h =
    grind (arith, nat_tests, parts_joined 44 names name, weaker is_symbol (lacks 44) no_comma (name ∷ names), joined_plain name names)

-- ---- times

pair_value : (n : ℕ) → n < 100
    → cond (is_ascii_digit (48 + n / 10) && is_ascii_digit (48 + n % 10)) (Some (10 * ((48 + n / 10) - 48) + ((48 + n % 10) - 48))) None
    ≡ Some n
pair_value n small = grind (arith, nat_tests)

clock_value : (h m s : ℕ) → h < 24 → m < 60 → s < 60 → clock_of (pair_text h ++ (58 ∷ pair_text m ++ (58 ∷ pair_text s))) ≡ Some (3600 * h + 60 * m + s)
unfolding clock_of pair_at
clock_value h m s hours minutes seconds = grind (arith, nat_tests, pair_value, lt-ltb)

time_value : (t : ℕ) → t ≤ SECONDS_OF_DAY → time_of (clock_text t) ≡ Some t
unfolding time_of clock_text
time_value t within = grind (arith, nat_tests, cases_lt, false_from_ne_true, bytes_eq-Decides, clock_value)

clock_plain : (t : ℕ) → is_plain (clock_text t) ≡ true
unfolding clock_text
clock_plain t = simp digit_not_space
  where
    digit_not_space : (x : ℕ) → ((48 + x) == 32) ≡ false
    digit_not_space x = ne_eqb (48 + x) 32 (omega arith)

-- ---- kinds

-- the letters of kinds spell them, and are a word
kinds_spelled : (e c p q : Bool) → has_some (record { e = e; c = c; p = p; q = q }) ≡ true
    → (kinds_of (join_with_byte 44 (kind_letters (record { e = e; c = c; p = p; q = q }))) ≡ Some (record { e = e; c = c; p = p; q = q }))
    × (is_plain (join_with_byte 44 (kind_letters (record { e = e; c = c; p = p; q = q }))) ≡ true)
unfolding kinds_of
kinds_spelled e c p q h = (grind arith, grind arith)

-- ---- conditions

-- the words of conditions say, after what was said, what the query means
abbrev Says : Said → List (List (List ℕ)) → Meaning → Type 0
Says said [] query = meaning_of said ≡ query
Says said (condition ∷ conditions) query = (at : ℕ) → Conditions said (words_of_parts at (condition ++ linked (codes "and") conditions)) query

-- so they do, and each of them can stand in a text
record IsSpelled (said : Said) (conditions : List (List (List ℕ))) (query : Meaning) : Type 0 where
  pub says : Says said conditions query
  pub plain : (link : List ℕ) → is_plain link ≡ true → list_all is_plain (linked link conditions) ≡ true

linked_says : (link : List ℕ) (said : Said) (conditions : List (List (List ℕ))) (query : Meaning) (at : ℕ) → Says said conditions query
    → Linked link said (words_of_parts at (linked link conditions)) query
linked_says link said [] query at h = rw (← h) done
linked_says link said (condition ∷ conditions) query at h = further (h (at + (length link + 1)))

-- the three conditions, the last of them first
kinds_say : (said : Said) (e c p q : Bool) → has_some (record { e = e; c = c; p = p; q = q }) ≡ true
    → IsSpelled (record said { kinds = None }) (kind_condition (record { e = e; c = c; p = p; q = q }))
    (meaning_of (record said { kinds = Some (record { e = e; c = c; p = p; q = q }) }))
kinds_say said true true true true h = record { says = refl; plain = λ link l. refl }
kinds_say said e c p q h =
    record { says = λ at. kind refl (kinds_spelled e c p q h).0 done; plain = λ link l. rw (l, (kinds_spelled e c p q h).1) refl }

span_says : (said : Said) (span : Option Span) (kinds : Kinds)
    → ((some : Span) → span ≡ Some some → (some.since < some.until) × (some.until ≤ SECONDS_OF_DAY)) → has_some kinds ≡ true
    → IsSpelled (record said { span = None; kinds = None }) (time_condition span ++ kind_condition kinds)
    (meaning_of (record said { span = span; kinds = Some kinds }))
span_says said None kinds bound some = kinds_say (record said { span = None }) kinds.e kinds.c kinds.p kinds.q some
span_says said (Some span) kinds bound some =
    let rest = kinds_say (record said { span = Some span }) kinds.e kinds.c kinds.p kinds.q some in
    let within = bound span refl in
    record {
      says = λ at. time refl (time_value span.since (omega arith)) (time_value span.until within.1) (lt-ltb _ _ within.0)
          (linked_says (codes "and") _ (kind_condition kinds) _ _ rest.says);
      plain = λ link l. rw (l, clock_plain span.since, clock_plain span.until, rest.plain (codes "and") refl) refl;
    }

symbols_say : (said : Said) (symbols : Option (List (List ℕ))) (kinds : Kinds)
    → ((some : List (List ℕ)) → symbols ≡ Some some → are_symbols some ≡ true)
    → ((some : Span) → said.span ≡ Some some → (some.since < some.until) × (some.until ≤ SECONDS_OF_DAY)) → has_some kinds ≡ true
    → IsSpelled (record said { symbols = None; span = None; kinds = None }) (symbol_condition symbols ++ (time_condition said.span ++ kind_condition kinds))
    (meaning_of (record said { symbols = symbols; kinds = Some kinds }))
symbols_say said None kinds listed bound some = span_says (record said { symbols = None }) said.span kinds bound some
symbols_say said (Some names) kinds listed bound some =
    let rest = span_says (record said { symbols = Some names }) said.span kinds bound some in
    let spelled = symbols_spelled names (listed names refl) in
    record {
      says = λ at. symbol refl spelled.0 (linked_says (codes "and") _ (time_condition said.span ++ kind_condition kinds) _ _ rest.says);
      plain = λ link l. rw (l, spelled.1, rest.plain (codes "and") refl) refl;
    }

-- ---- the whole

-- the words of a moment and of the conditions after it
abbrev from_moment : Option ℕ → List (List (List ℕ)) → List (List ℕ)
from_moment moment conditions = moment_words moment ++ linked (codes "where") conditions

-- what is listed, and up to which moment
abbrev at_moment : What → Option ℕ → Said
at_moment what moment = record { what = what; as_of = moment; symbols = None; span = None; kinds = None }

moment_says : (what : What) (moment : Option ℕ) (conditions : List (List (List ℕ))) (query : Meaning) (at : ℕ)
    → ((last : ℕ) → moment ≡ Some last → last ≤ SECONDS_OF_DAY) → Says (at_moment what moment) conditions query
    → Moment (only what) (words_of_parts at (from_moment moment conditions)) query
moment_says what None conditions query at bound h = any_moment (linked_says (codes "where") (only what) conditions query at h)
moment_says what (Some last) conditions query at bound h =
    up_to (time_value last (bound last refl)) (linked_says (codes "where") (at_moment what (Some last)) conditions query _ h)

moment_plain : (moment : Option ℕ) (rest : List (List ℕ)) → list_all is_plain rest ≡ true → list_all is_plain (moment_words moment ++ rest) ≡ true
moment_plain moment rest h = grind (arith, clock_plain)

what_means : (what : What) (rest : List (List ℕ)) (query : Meaning) → ((n : ℕ) → what ≡ Bars n → is_width n ≡ true) → list_all is_plain rest ≡ true
    → ((at : ℕ) → Moment (only what) (words_of_parts at rest) query) → Means (words_of (join_with_byte 32 (what_words what ++ rest))) query
unfolding unit_of
what_means Sales rest query fits plain says = rw (words_joined (codes "sales") rest plain) (sales (says _))
what_means (Bars width) rest query fits plain says =
    let fit = fits width refl in
    let within : width ≤ SECONDS_OF_DAY = leb-true _ _ (and_parts (nat_le 1 width) _ fit).1 in
    let same : width ≡ width * 1 = omega arith in
    let said : (at : ℕ) → Moment (only (Bars (width * 1))) (words_of_parts at rest) query =
    λ at. subst (λ n. Moment (only (Bars n)) (words_of_parts at rest) query) same (says at) in
    rw (words_joined (codes "bars") (decimal width ∷ codes "s" ∷ rest) (and_from _ _ (decimal_plain width (omega arith)) plain))
    (bars (decimal_value width (omega arith) (omega arith)) refl (subst (λ n. is_width n ≡ true) same fit) (said _))

-- the canonical text of a query is in the grammar, and means the query
pub canonical_means : (query : Meaning) → CanBeSpelled query → Means (words_of (canonical query)) query
unfolding canonical
canonical_means query spelled =
    let said : Said = record { what = query.what; as_of = query.as_of; symbols = None; span = query.span; kinds = None } in
    let conditions = symbols_say said query.symbols query.kinds spelled.symbols spelled.span spelled.kinds in
    what_means query.what (from_moment query.as_of (conditions_of query)) query spelled.width
    (moment_plain query.as_of _ (conditions.plain (codes "where") refl))
    (λ at. moment_says query.what query.as_of (conditions_of query) query at spelled.moment conditions.says)
