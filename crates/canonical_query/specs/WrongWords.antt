-- The first wrong word of a text: after which words a query can still follow, with which none can any more, and why.
-- To be believed of a crate used by itself.
use Rattle.std.specs.Prelude.{◌≡◌, ◌⊎◌, ℕ, ◌*◌, nat_lt, Bool, true, false, ◌&&◌, ◌||◌, List, [], ◌∷◌, ◌++◌, Some, None, is_some, codes}
use Rattle.base.specs.declared.limits.TheConstants.{SECONDS_OF_DAY}
use Rattle.meaning.specs.Meaning.{Meaning, is_width}
use Rattle.query.specs.Words.{Word, word, reads_as}
use Rattle.query.specs.Values.{count_of, unit_of, time_of}
use Rattle.query.specs.Grammar.{Means}
use Rattle.query.specs.Faults.{QueryFault, UnknownWord, BadNumber, BadTime, Repeated, EmptyRange, Incomplete}

-- some query begins with these words: there are more words such that all of them together mean it
abbrev pub Begins : List Word → Type 0
Begins words = (more : List Word) × (query : Meaning) × Means (words ++ more) query

-- `bars` and a number that makes a width with no unit: 0, or more than the seconds of a day
pub record HasNoUnit (words : List Word) : Type 0 where
  pub at_bars : ℕ
  pub number : Word
  pub count : ℕ
  pub parted : words ≡ word at_bars (codes "bars") ∷ number ∷ []
  pub counted : count_of number.bytes ≡ Some count
  pub no_width : is_width count ≡ false

-- a span that starts at the day's end, past which no time is: its words up to the start, or up to `until`
pub record HasNoEnd (words : List Word) : Type 0 where
  pub first : List Word
  pub at_time : ℕ
  pub at_from : ℕ
  pub start : Word
  pub since : ℕ
  pub rest : List Word
  pub parted : words ≡ first ++ (word at_time (codes "time") ∷ word at_from (codes "from") ∷ start ∷ rest)
  pub up_to : (rest ≡ []) ⊎ ((at_until : ℕ) × (rest ≡ word at_until (codes "until") ∷ []))
  pub begun : Begins (first ++ (word at_time (codes "time") ∷ word at_from (codes "from") ∷ []))
  pub starts : time_of start.bytes ≡ Some since
  pub no_later : nat_lt since SECONDS_OF_DAY ≡ false

-- the words of a query that has a condition on symbols, and `and`, behind which no query goes on: it has a condition of
-- each sort
pub record HasNoCondition (words : List Word) : Type 0 where
  pub first : List Word
  pub at_and : ℕ
  pub query : Meaning
  pub parted : words ≡ first ++ (word at_and (codes "and") ∷ [])
  pub means : Means first query
  pub listed : is_some query.symbols ≡ true
  pub none : Begins words → ⊥

-- nothing is wrong with these words yet: some query begins with them; or none does, and that shows only at a later word
abbrev pub GoesOn : List Word → Type 0
GoesOn words = Begins words ⊎ (HasNoUnit words ⊎ (HasNoEnd words ⊎ HasNoCondition words))

-- the last words before a time: `as of`; `time from`; or `from`, one word more and `until`
abbrev pub lead_to_time : List Word → Bool
lead_to_time (v ∷ w ∷ []) =
    (reads_as (codes "as") v && reads_as (codes "of") w) || (reads_as (codes "time") v && reads_as (codes "from") w)
lead_to_time (v ∷ start ∷ w ∷ []) = reads_as (codes "from") v && reads_as (codes "until") w
lead_to_time _ = false

-- a word begins a condition that a query has; whether a query has one on kinds, its meaning doesn't tell
abbrev pub begins_again : Word → Meaning → Bool
begins_again w query =
    (reads_as (codes "symbol") w && is_some query.symbols)
    || ((reads_as (codes "time") w && is_some query.span) || reads_as (codes "kind") w)

-- a word is no time, and stands where one must
pub record IsNoTime (before : List Word) (wrong : Word) : Type 0 where
  pub first : List Word
  pub last : List Word
  pub parted : before ≡ first ++ last
  pub leads : lead_to_time last ≡ true
  pub no_time : time_of wrong.bytes ≡ None

-- a word begins a condition again, behind the words of a query and `and`
pub record IsAgain (before : List Word) (wrong : Word) : Type 0 where
  pub first : List Word
  pub at_and : ℕ
  pub query : Meaning
  pub parted : before ≡ first ++ (word at_and (codes "and") ∷ [])
  pub means : Means first query
  pub again : begins_again wrong query ≡ true

-- a word behind `bars` is no number
pub record IsNoNumber (before : List Word) (wrong : Word) : Type 0 where
  pub at_bars : ℕ
  pub parted : before ≡ word at_bars (codes "bars") ∷ []
  pub no_number : count_of wrong.bytes ≡ None

-- a word is a unit, and makes no width with the number before it
pub record IsNoWidth (before : List Word) (number wrong : Word) : Type 0 where
  pub at_bars : ℕ
  pub count : ℕ
  pub seconds : ℕ
  pub parted : before ≡ word at_bars (codes "bars") ∷ number ∷ []
  pub counted : count_of number.bytes ≡ Some count
  pub unit : unit_of wrong.bytes ≡ Some seconds
  pub no_width : is_width (count * seconds) ≡ false

-- a word is a time, and ends a span that starts no earlier
pub record IsNoLater (before : List Word) (wrong : Word) : Type 0 where
  pub first : List Word
  pub at_time : ℕ
  pub at_from : ℕ
  pub at_until : ℕ
  pub start : Word
  pub since : ℕ
  pub until : ℕ
  pub parted : before ≡ first
      ++ (word at_time (codes "time") ∷ word at_from (codes "from") ∷ start ∷ word at_until (codes "until") ∷ [])
  pub starts : time_of start.bytes ≡ Some since
  pub ends : time_of wrong.bytes ≡ Some until
  pub no_later : nat_lt since until ≡ false

-- a word has a fault of its own sort behind the words before it, which tells more than that it is unknown
abbrev pub HasOwnFault : List Word → Word → QueryFault → Type 0
HasOwnFault before wrong (BadTime at) = (at ≡ wrong.at) × IsNoTime before wrong
HasOwnFault before wrong (Repeated at) = (at ≡ wrong.at) × IsAgain before wrong
HasOwnFault before wrong (BadNumber at) =
    ((at ≡ wrong.at) × IsNoNumber before wrong)
    ⊎ ((number : Word) × (at ≡ number.at) × IsNoWidth before number wrong)
HasOwnFault before wrong EmptyRange = IsNoLater before wrong
HasOwnFault before wrong _ = ⊥

-- the fault of a wrong word behind the words before it: that of its own sort, or else that it is unknown
abbrev pub IsWrong : List Word → Word → QueryFault → Type 0
IsWrong before wrong (UnknownWord at) = (at ≡ wrong.at) × ((fault : QueryFault) → HasOwnFault before wrong fault → ⊥)
IsWrong before wrong fault = HasOwnFault before wrong fault

-- the words have a first wrong word, with this fault: the words before it go on, and with it they don't
pub record HasWrong (words : List Word) (fault : QueryFault) : Type 0 where
  pub before : List Word
  pub wrong : Word
  pub after : List Word
  pub parted : words ≡ before ++ (wrong ∷ after)
  pub right : GoesOn before
  pub none : GoesOn (before ++ (wrong ∷ [])) → ⊥
  pub why : IsWrong before wrong fault

-- the first fault of words, by the grammar: that of their first wrong word; or they have none, and mean no query
abbrev pub IsFirstFault : List Word → QueryFault → Type 0
IsFirstFault words Incomplete = GoesOn words × ((query : Meaning) → Means words query → ⊥)
IsFirstFault words fault = HasWrong words fault
