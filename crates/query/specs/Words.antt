-- The words of a text: what is between its spaces.
-- To be believed.
use Rattle.std.specs.Prelude.{◌≡◌, ℕ, ◌+◌, ◌<◌, ◌==◌, nat_lt, Bool, true, false, ◌&&◌, ◌||◌, List, [], ◌∷◌, length, filter, codes}
use Rattle.std.specs.List.{slice_split}
use Rattle.std.specs.Str.{bytes_eq}
use Rattle.query.specs.declared.words.TheConstants.{SPACE}

-- a word, and how many bytes of the text come before it
pub record Word : Type 0 where
  pub at : ℕ
  pub bytes : List ℕ

-- a word at a byte of the text
abbrev pub word : ℕ → List ℕ → Word
word at bytes = record { at = at; bytes = bytes }

-- a word is this text
abbrev pub reads_as : List ℕ → Word → Bool
reads_as text w = bytes_eq w.bytes text

-- the parts of a text between the bytes that separate them, empty parts too
abbrev pub split_by : ℕ → List ℕ → List (List ℕ)
split_by separator text = slice_split (λ byte. byte == separator) text

-- the words that parts are, with one byte between each two, the first of them at byte `at`
abbrev pub words_of_parts : ℕ → List (List ℕ) → List Word
words_of_parts at [] = []
words_of_parts at (part ∷ more) = word at part ∷ words_of_parts (at + (length part + 1)) more

-- the parts between spaces that aren't empty, of a text that begins at byte `at`
unfoldable pub words_from : ℕ → List ℕ → List Word
words_from at text = filter (λ w. nat_lt 0 (length w.bytes)) (words_of_parts at (split_by SPACE text))

-- the words of a text: the runs of bytes between spaces, each with the number of bytes before it
abbrev pub words_of : List ℕ → List Word
words_of text = words_from 0 text

-- `in` and one more word come first
abbrev pub begins_list : List Word → Bool
begins_list [] = false
begins_list (w ∷ []) = false
begins_list (w ∷ list ∷ ws) = reads_as (codes "in") w

-- somewhere among the words `symbol`, `in` and one more word follow one another
abbrev pub lists_symbols : List Word → Bool
lists_symbols [] = false
lists_symbols (w ∷ ws) = (reads_as (codes "symbol") w && begins_list ws) || lists_symbols ws

-- the rest of some words, once one or more were taken: it lists symbols only where they do
pub record IsLater (words rest : List Word) : Type 0 where
  pub shorter : length rest < length words
  pub listed : lists_symbols rest ≡ true → lists_symbols words ≡ true
