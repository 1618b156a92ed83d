-- The first fault of a text: its words are read one by one, and what must come next is kept.
-- To be believed.
use Rattle.std.specs.Prelude.{◌≡◌, ◌≢◌, ℕ, ◌*◌, nat_lt, Bool, true, if◌then◌else◌, List, Option, Some, None, is_some, Result, Ok, Err, codes, fold}
use Rattle.std.specs.Result.{result_err}
use Rattle.query.specs.Words.{Word, lists_symbols, reads_as}
use Rattle.query.specs.Values.{count_of, unit_of, time_of, symbols_of, kinds_of}
use Rattle.meaning.specs.Meaning.{Meaning, is_width}
use Rattle.meaning.specs.declared.query.What.TheVariants.{Bars, Sales}
use Rattle.query.specs.Grammar.{Said, only, meaning_of}
pub use Rattle.outcomes.specs.declared.query_fault.QueryFault.{QueryFault}
pub use Rattle.outcomes.specs.declared.query_fault.QueryFault.TheVariants.{UnknownWord, BadNumber, BadTime, Repeated}
pub use Rattle.outcomes.specs.declared.query_fault.QueryFault.TheVariants.{EmptyRange, Incomplete, OutOfMemory}

-- what must come next, after what was said
pub data Next : Type 0 where
  -- nothing, since the words so far have this fault
  refused : QueryFault → Next
  -- a word, which leads to this
  needs : (Word → Next) → Next
  condition : Said → Next
  -- the end, or this word and conditions
  linked : List ℕ → Said → Next
  -- the end, or `as of` and a time, or `where` and conditions
  moment : Said → Next

-- what comes next after a word that must be this text
abbrev pub text : List ℕ → Next → Next
text bytes next = needs (λ w. if reads_as bytes w then next else refused (UnknownWord w.at))

-- what comes next after a word that stands for a value, or the fault if it stands for nothing
abbrev pub valued : {A : Type 0} → Option A → QueryFault → (A → Next) → Next
valued None fault next = refused fault
valued (Some value) fault next = next value

-- what comes next after a time
abbrev pub timed : (ℕ → Next) → Next
timed next = needs (λ w. valued (time_of w.bytes) (BadTime w.at) next)

-- what comes next after the first word of a condition, which may not have been given before
abbrev pub opened : Word → Bool → Next → Next
opened w given next = if given then refused (Repeated w.at) else next

-- a number and its unit; the fault of their product, which is no width, is the number's
abbrev pub width : Next
width =
    needs (λ number. valued (count_of number.bytes) (BadNumber number.at) (λ count.
    needs (λ unit. valued (unit_of unit.bytes) (UnknownWord unit.at) (λ seconds.
    if is_width (count * seconds) then moment (only (Bars (count * seconds))) else refused (BadNumber number.at)))))

-- the words of a query
abbrev pub query : Next
query =
    needs (λ w.
    if reads_as (codes "sales") w then moment (only Sales)
    else if reads_as (codes "bars") w then width
    else refused (UnknownWord w.at))

-- `in` and a list of symbols
abbrev pub symbol_list : Said → Next
symbol_list said =
    text (codes "in") (needs (λ list. valued (symbols_of list.bytes) (UnknownWord list.at) (λ names.
    linked (codes "and") (record said { symbols = Some names }))))

-- `from`, a time, `until` and a later time
abbrev pub time_span : Said → Next
time_span said =
    text (codes "from") (timed (λ since. text (codes "until") (timed (λ until.
    if nat_lt since until
    then linked (codes "and") (record said { span = Some (record { since = since; until = until }) })
    else refused EmptyRange))))

-- `in` and a list of kinds
abbrev pub kind_list : Said → Next
kind_list said =
    text (codes "in") (needs (λ list. valued (kinds_of list.bytes) (UnknownWord list.at) (λ some.
    linked (codes "and") (record said { kinds = Some some }))))

-- what one more word leads to
unfoldable pub step : Next → Word → Next
step (refused fault) w = refused fault
step (needs next) w = next w
step (condition said) w =
    if reads_as (codes "symbol") w then opened w (is_some said.symbols) (symbol_list said)
    else if reads_as (codes "time") w then opened w (is_some said.span) (time_span said)
    else if reads_as (codes "kind") w then opened w (is_some said.kinds) (kind_list said)
    else refused (UnknownWord w.at)
step (linked link said) w = if reads_as link w then condition said else refused (UnknownWord w.at)
step (moment said) w =
    if reads_as (codes "as") w
    then text (codes "of") (timed (λ time. linked (codes "where") (record said { as_of = Some time })))
    else if reads_as (codes "where") w then condition said
    else refused (UnknownWord w.at)

-- what the end of the text leads to: the query, or the fault of an incomplete one
abbrev pub ended : Next → Result Meaning QueryFault
ended (refused fault) = Err fault
ended (linked link said) = Ok (meaning_of said)
ended (moment said) = Ok (meaning_of said)
ended _ = Err Incomplete

-- what the words lead to, one after another: the query, or the first fault
unfoldable pub read_from : Next → List Word → Result Meaning QueryFault
read_from next words = ended (fold step next words)

-- the first fault of the words of a text, if there is one
abbrev pub first_query_fault : List Word → Option QueryFault
first_query_fault words = result_err (read_from query words)

-- words are refused with their first fault, or for want of memory, where they list symbols
pub record IsRefused (next : Next) (words : List Word) (fault : QueryFault) : Type 0 where
  pub first : fault ≢ OutOfMemory → read_from next words ≡ Err fault
  pub memory : fault ≡ OutOfMemory → lists_symbols words ≡ true
