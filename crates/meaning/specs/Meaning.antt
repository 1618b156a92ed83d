-- What a symbol is, and what a query means.
-- To be believed.
use Rattle.std.specs.Prelude.{◌≡◌, ℕ, ◌<◌, ◌≤◌, ◌==◌, nat_lt, nat_le, Bool, true, ◌&&◌, ◌||◌, not, List, length, Option, Some}
use Rattle.std.specs.List.{list_all}
use Rattle.base.specs.declared.limits.TheConstants.{SECONDS_OF_DAY}
use Rattle.meaning.specs.declared.query.What.{What}
use Rattle.meaning.specs.declared.query.What.TheVariants.{Bars}
use Rattle.meaning.specs.declared.symbols.TheConstants.{COMMA}
pub use Rattle.probe.specs.declared.selection.Kinds.{Kinds}
pub use Rattle.probe.specs.declared.selection.Span.{Span}

-- a visible ASCII character, from `!` to `~`, but no comma
abbrev pub is_symbol_byte : ℕ → Bool
is_symbol_byte byte = (nat_le 33 byte && nat_le byte 126) && not (byte == COMMA)

-- one to eight such bytes: a symbol
unfoldable pub is_symbol : List ℕ → Bool
is_symbol bytes = (nat_lt 0 (length bytes) && nat_le (length bytes) 8) && list_all is_symbol_byte bytes

-- a query: what is listed, up to which second messages count, and which sales by symbols, span and kinds
pub record Meaning : Type 0 where
  pub what : What
  -- messages of a later time than this, which is in seconds since midnight, don't count
  pub as_of : Option ℕ
  pub symbols : Option (List (List ℕ))
  pub span : Option Span
  pub kinds : Kinds

-- a width of one second to a day
abbrev pub is_width : ℕ → Bool
is_width width = nat_le 1 width && nat_le width SECONDS_OF_DAY

-- one or more symbols
abbrev pub are_symbols : List (List ℕ) → Bool
are_symbols symbols = nat_lt 0 (length symbols) && list_all is_symbol symbols

-- one or more kinds
abbrev pub has_some : Kinds → Bool
has_some kinds = (kinds.e || kinds.c) || (kinds.p || kinds.q)

-- what is listed, if bars, has a width of one second to a day
abbrev pub HasWidth : What → Type 0
HasWidth what = (n : ℕ) → what ≡ Bars n → is_width n ≡ true

-- a query that the language can spell: its width, moment, symbols, times and kinds are within their bounds; a moment is
-- at most the day's end, and a span starts before its end, which isn't past the day's end
pub record CanBeSpelled (query : Meaning) : Type 0 where
  pub width : HasWidth query.what
  pub moment : (time : ℕ) → query.as_of ≡ Some time → time ≤ SECONDS_OF_DAY
  pub symbols : (some : List (List ℕ)) → query.symbols ≡ Some some → are_symbols some ≡ true
  pub span : (some : Span) → query.span ≡ Some some → (some.since < some.until) × (some.until ≤ SECONDS_OF_DAY)
  pub kinds : has_some query.kinds ≡ true
