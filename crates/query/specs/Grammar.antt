-- The grammar of queries, a rule for each of its forms.
-- To be believed.
-- Each word has the number of bytes before it, which may be any.
use Rattle.std.specs.Prelude.{◌≡◌, ℕ, ◌*◌, nat_lt, true, List, [], ◌∷◌, Option, Some, None, codes, unwrap_or}
use Rattle.query.specs.Words.{Word, word}
use Rattle.query.specs.Values.{count_of, unit_of, time_of, symbols_of, kinds_of}
use Rattle.meaning.specs.Meaning.{Kinds, Meaning, Span, is_width}
use Rattle.meaning.specs.declared.query.What.{What}
use Rattle.meaning.specs.declared.query.What.TheVariants.{Bars, Sales}

-- the part of a query that was read; a moment or condition that wasn't given is `None`
pub record Said : Type 0 where
  pub what : What
  -- messages of a later time than this, which is in seconds since midnight, don't count
  pub as_of : Option ℕ
  pub symbols : Option (List (List ℕ))
  pub span : Option Span
  pub kinds : Option Kinds

-- what is listed, and neither a moment nor a condition yet
abbrev pub only : What → Said
only what = record { what = what; as_of = None; symbols = None; span = None; kinds = None }

-- what was said, with all four kinds if none were given
abbrev pub meaning_of : Said → Meaning
meaning_of said =
    record {
      what = said.what;
      as_of = said.as_of;
      symbols = said.symbols;
      span = said.span;
      kinds = unwrap_or said.kinds (record { e = true; c = true; p = true; q = true });
    }

mutual
  -- the words after `where` or `and`, and the query that they make of what was said before them
  pub data Conditions : Said → List Word → Meaning → Type 0 where
    symbol :
        {said : Said} {a b c : ℕ} {list : List ℕ} {names : List (List ℕ)}
        {rest : List Word} {query : Meaning}
        → said.symbols ≡ None → symbols_of list ≡ Some names
        → Linked (codes "and") (record said { symbols = Some names }) rest query
        → Conditions said
        (word a (codes "symbol") ∷ word b (codes "in") ∷ word c list ∷ rest) query
    time :
        {said : Said} {a b c d e : ℕ} {first second : List ℕ} {since until : ℕ}
        {rest : List Word} {query : Meaning}
        → said.span ≡ None → time_of first ≡ Some since → time_of second ≡ Some until
        → nat_lt since until ≡ true
        → Linked (codes "and") (record said { span = Some (record { since = since; until = until }) }) rest query
        → Conditions said
        (word a (codes "time") ∷ word b (codes "from") ∷ word c first
        ∷ word d (codes "until") ∷ word e second ∷ rest) query
    kind :
        {said : Said} {a b c : ℕ} {list : List ℕ} {kinds : Kinds}
        {rest : List Word} {query : Meaning}
        → said.kinds ≡ None → kinds_of list ≡ Some kinds
        → Linked (codes "and") (record said { kinds = Some kinds }) rest query
        → Conditions said
        (word a (codes "kind") ∷ word b (codes "in") ∷ word c list ∷ rest) query

  -- the words where conditions may follow: none, or the word before them, `where` or `and`, and conditions
  pub data Linked : List ℕ → Said → List Word → Meaning → Type 0 where
    done : {link : List ℕ} {said : Said} → Linked link said [] (meaning_of said)
    further :
        {link : List ℕ} {said : Said} {a : ℕ} {rest : List Word} {query : Meaning}
        → Conditions said rest query → Linked link said (word a link ∷ rest) query

-- the words after what is listed: conditions after `where` or none, with `as of` and a time before it or not
pub data Moment : Said → List Word → Meaning → Type 0 where
  any_moment :
      {said : Said} {rest : List Word} {query : Meaning}
      → Linked (codes "where") said rest query → Moment said rest query
  up_to :
      {said : Said} {a b c : ℕ} {moment : List ℕ} {time : ℕ} {rest : List Word} {query : Meaning}
      → time_of moment ≡ Some time → Linked (codes "where") (record said { as_of = Some time }) rest query
      → Moment said (word a (codes "as") ∷ word b (codes "of") ∷ word c moment ∷ rest) query

-- the grammar of a whole query, a rule for each of its forms: these words mean this query
pub data Means : List Word → Meaning → Type 0 where
  sales :
      {a : ℕ} {rest : List Word} {query : Meaning}
      → Moment (only Sales) rest query → Means (word a (codes "sales") ∷ rest) query
  bars :
      {a b c : ℕ} {number unit : List ℕ} {count seconds : ℕ} {rest : List Word} {query : Meaning}
      → count_of number ≡ Some count → unit_of unit ≡ Some seconds
      → is_width (count * seconds) ≡ true
      → Moment (only (Bars (count * seconds))) rest query
      → Means (word a (codes "bars") ∷ word b number ∷ word c unit ∷ rest) query
