-- The canonical text of a query.
-- To be believed of a crate used by itself.
use Rattle.std.specs.Prelude.{ℕ, ◌+◌, ◌/◌, ◌%◌, ◌&&◌, if◌then◌else◌, List, [], ◌∷◌, ◌++◌, Option, Some, None, codes}
use Rattle.std.specs.List.{flat_map, join_with_byte}
use Rattle.std.specs.Fmt.{decimal}
use Rattle.meaning.specs.Meaning.{Kinds, Meaning, Span}
use Rattle.meaning.specs.declared.query.What.TheVariants.{Bars, Sales}
use Rattle.meaning.specs.declared.query.What.{What}
use Rattle.meaning.specs.declared.symbols.TheConstants.{COMMA}
use Rattle.query.specs.declared.words.TheConstants.{SPACE}
use Rattle.query.specs.declared.values.TheConstants.{COLON}

-- a number below 100 in two digits; 48 is the code of `0`
abbrev pub pair_text : ℕ → List ℕ
pair_text n = (48 + n / 10) ∷ (48 + n % 10) ∷ []

-- seconds since midnight as `HH:MM:SS`
unfoldable pub clock_text : ℕ → List ℕ
clock_text time = pair_text (time / 3600) ++ (COLON ∷ pair_text (time / 60 % 60) ++ (COLON ∷ pair_text (time % 60)))

-- what is listed; a width in seconds
abbrev pub what_words : What → List (List ℕ)
what_words Sales = codes "sales" ∷ []
what_words (Bars width) = codes "bars" ∷ decimal width ∷ codes "s" ∷ []

-- the words of the moment, if there is one
abbrev pub moment_words : Option ℕ → List (List ℕ)
moment_words None = []
moment_words (Some time) = codes "as" ∷ codes "of" ∷ clock_text time ∷ []

-- the words of the condition on symbols, if there is one
abbrev pub symbol_condition : Option (List (List ℕ)) → List (List (List ℕ))
symbol_condition None = []
symbol_condition (Some names) = (codes "symbol" ∷ codes "in" ∷ join_with_byte COMMA names ∷ []) ∷ []

-- the words of the condition on times, if there is one
abbrev pub time_condition : Option Span → List (List (List ℕ))
time_condition None = []
time_condition (Some span) =
    (codes "time" ∷ codes "from" ∷ clock_text span.since ∷ codes "until"
    ∷ clock_text span.until ∷ []) ∷ []

-- the letters of the kinds
abbrev pub kind_letters : Kinds → List (List ℕ)
kind_letters kinds =
    (if kinds.e then codes "E" ∷ [] else []) ++ ((if kinds.c then codes "C" ∷ [] else [])
    ++ ((if kinds.p then codes "P" ∷ [] else []) ++ (if kinds.q then codes "Q" ∷ [] else [])))

-- the words of the condition on kinds, if not all four are selected
abbrev pub kind_condition : Kinds → List (List (List ℕ))
kind_condition kinds =
    if (kinds.e && kinds.c) && (kinds.p && kinds.q) then []
    else (codes "kind" ∷ codes "in" ∷ join_with_byte COMMA (kind_letters kinds) ∷ []) ∷ []

-- the words of a query's conditions: symbol, time, kind, those that it has
abbrev pub conditions_of : Meaning → List (List (List ℕ))
conditions_of query = symbol_condition query.symbols ++ (time_condition query.span ++ kind_condition query.kinds)

-- the words of conditions, with a word before the first, and `and` before each other one
abbrev pub linked : List ℕ → List (List (List ℕ)) → List (List ℕ)
linked link [] = []
linked link (condition ∷ conditions) = link ∷ condition ++ linked (codes "and") conditions

-- the one text in which a query is written: the words of what is listed, of the moment and of the conditions, with one
-- space between each two
unfoldable pub canonical : Meaning → List ℕ
canonical query =
    join_with_byte SPACE
    (what_words query.what ++ (moment_words query.as_of ++ linked (codes "where") (conditions_of query)))

-- words with a space before each
abbrev pub spaced : List (List ℕ) → List ℕ
spaced words = flat_map (λ bytes. SPACE ∷ bytes) words

-- the word before the next condition
abbrev pub next_link : List ℕ → List (List (List ℕ)) → List ℕ
next_link link [] = link
next_link link (condition ∷ conditions) = codes "and"
