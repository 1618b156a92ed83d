-- Words that stand for a value.
-- To be believed.
use Rattle.std.specs.Prelude.{ℕ, ◌+◌, ◌-◌, ◌*◌, ◌==◌, nat_lt, nat_le, Bool, ◌&&◌, ◌||◌, if◌then◌else◌, List, length, fold, Option, Some, None, option_and_then, slice_index, codes, bytes_eq}
use Rattle.std.specs.Char.{is_ascii_digit}
use Rattle.std.specs.List.{list_all}
use Rattle.base.specs.Among.{is_among}
use Rattle.query.specs.Words.{split_by}
use Rattle.meaning.specs.Meaning.{is_symbol}
use Rattle.base.specs.declared.limits.TheConstants.{SECONDS_OF_DAY}
use Rattle.probe.specs.declared.selection.Kinds.{Kinds}
use Rattle.meaning.specs.declared.symbols.TheConstants.{COMMA}
use Rattle.query.specs.declared.values.TheConstants.{COLON}

-- the number that digits write; 48 is the code of `0`
abbrev pub number_from : List ℕ → ℕ
number_from digits = fold (λ value digit. 10 * value + (digit - 48)) 0 digits

-- the number that a word of one to five digits writes
unfoldable pub count_of : List ℕ → Option ℕ
count_of bytes =
    if (nat_lt 0 (length bytes) && nat_le (length bytes) 5) && list_all is_ascii_digit bytes
    then Some (number_from bytes) else None

-- how many seconds a unit has
unfoldable pub unit_of : List ℕ → Option ℕ
unit_of bytes =
    if bytes_eq bytes (codes "s") then Some 1
    else if bytes_eq bytes (codes "m") then Some 60
    else if bytes_eq bytes (codes "h") then Some 3600
    else None

-- the two digits at a place of a word
unfoldable pub pair_at : ℕ → List ℕ → Option ℕ
pair_at place bytes =
    if is_ascii_digit (slice_index bytes place) && is_ascii_digit (slice_index bytes (place + 1))
    then Some (10 * (slice_index bytes place - 48) + (slice_index bytes (place + 1) - 48)) else None

-- the seconds since midnight that a word `HH:MM:SS` writes, whose three numbers are below 24, 60 and 60
unfoldable pub clock_of : List ℕ → Option ℕ
clock_of bytes =
    if length bytes == 8 && (slice_index bytes 2 == COLON && slice_index bytes 5 == COLON)
    then option_and_then (λ hours. option_and_then (λ minutes. option_and_then (λ seconds.
    if (nat_lt hours 24 && nat_lt minutes 60) && nat_lt seconds 60
    then Some (3600 * hours + 60 * minutes + seconds) else None) (pair_at 6 bytes)) (pair_at 3 bytes)) (pair_at 0 bytes)
    else None

-- the seconds since midnight that a word writes: a time of the day, or `24:00:00`, the day's end
unfoldable pub time_of : List ℕ → Option ℕ
time_of bytes = if bytes_eq bytes (codes "24:00:00") then Some SECONDS_OF_DAY else clock_of bytes

-- the symbols of a word that lists them, with a comma between each two
unfoldable pub symbols_of : List ℕ → Option (List (List ℕ))
symbols_of bytes = let symbols = split_by COMMA bytes in
    if list_all is_symbol symbols then Some symbols else None

-- a word is the letter of a kind
abbrev pub is_kind : List ℕ → Bool
is_kind bytes =
    (bytes_eq bytes (codes "E") || bytes_eq bytes (codes "C"))
    || (bytes_eq bytes (codes "P") || bytes_eq bytes (codes "Q"))

-- the kinds whose letters, E, C, P and Q, are in a word
abbrev pub letters_of : List ℕ → Kinds
letters_of bytes =
    record { e = is_among bytes 69; c = is_among bytes 67; p = is_among bytes 80; q = is_among bytes 81 }

-- the kinds of a word that lists them, with a comma between each two
unfoldable pub kinds_of : List ℕ → Option Kinds
kinds_of bytes = if list_all is_kind (split_by COMMA bytes) then Some (letters_of bytes) else None
