-- Where words lead if none of them is wrong: places, and what must come next there.
use Rattle.std.proofs.Common.{◌≡◌, ℕ, ◌*◌, Bool, true, false, cond, nat_lt, List, [], ◌∷◌, ◌++◌, Option, Some, None, refl, ap, ◌∙◌, codes, ◌⊎◌, inl, inr, fold}
use Rattle.std.specs.Prelude.{is_some, Err}
use Rattle.std.proofs.lemmas.List.Sums.{fold-append}
use Rattle.meaning.specs.Meaning.{Kinds, is_width}
use Rattle.meaning.specs.declared.query.What.TheVariants.{Bars}
use Rattle.query.specs.Words.{Word, word, reads_as}
use Rattle.query.specs.Values.{count_of, unit_of, time_of, symbols_of, kinds_of}
use Rattle.query.specs.Grammar.{Said, only, meaning_of}
use Rattle.query.specs.Faults.{Next, QueryFault, UnknownWord, BadNumber, Repeated, EmptyRange, ended, opened, read_from, step, text, timed, valued, refused}
use Rattle.query.specs.Faults.{needs, condition, linked, moment, query, width, symbol_list, time_span, kind_list}
use Rattle.query.proofs.WordByWord.{stays}
use Rattle.query.proofs.MeaningOrFault.{means_read}
use Rattle.canonical_query.specs.WrongWords.{Begins, begins_again}

-- what some words lead to
abbrev pub lead : List Word → Next
lead ws = fold step query ws

pub read_more : (next : Next) (ws more : List Word) → read_from next (ws ++ more) ≡ read_from (fold step next ws) more
unfolding read_from
read_more next ws more = ap ended (fold-append step next ws more)

pub one_more : (ws : List Word) (s n : Next) (w : Word) → lead ws ≡ s → step s w ≡ n → lead (ws ++ (w ∷ [])) ≡ n
one_more ws s n w here e = fold-append step query ws (w ∷ []) ∙ ap (λ x. step x w) here ∙ e

-- words with which a query begins aren't refused
pub not_refused : (ws : List Word) (fault : QueryFault) → lead ws ≡ refused fault → Begins ws → ⊥
not_refused ws fault e b =
    let read = means_read b.2 in
    let more = read_more query ws b.0 in
    let none : read_from (lead ws) b.0 ≡ Err fault = ap (λ n. read_from n b.0) e ∙ stays fault b.0 in
    absurd (cc)

-- ---- cases of what comes next

pub either : {R : Type 0} (n : Next) (b : Bool) (one other : Next) → n ≡ cond b one other → (b ≡ true → n ≡ one → R) → (b ≡ false → n ≡ other → R) → R
either n true one other e hit miss = hit refl e
either n false one other e hit miss = miss refl e

pub of_value : {R A : Type 0} (n : Next) (o : Option A) (fault : QueryFault) (next : A → Next) → n ≡ valued o fault next
    → ((x : A) → o ≡ Some x → n ≡ next x → R) → (o ≡ None → n ≡ refused fault → R) → R
of_value n None fault next e some none = none refl e
of_value n (Some x) fault next e some none = some x refl e

pub none_or_some : {A : Type 0} (o : Option A) → (o ≡ None) ⊎ ((x : A) × (o ≡ Some x))
none_or_some None = inl refl
none_or_some (Some x) = inr (x, refl)

-- ---- where words may lead

abbrev pub unit_next : Word → ℕ → Next
unit_next number count =
    needs (λ unit. valued (unit_of unit.bytes) (UnknownWord unit.at) (λ seconds.
    cond (is_width (count * seconds)) (moment (only (Bars (count * seconds)))) (refused (BadNumber number.at))))

abbrev pub at_moment : Said → ℕ → Next
at_moment said time = linked (codes "where") (record said { as_of = Some time })

abbrev pub of_next : Said → Next
of_next said = text (codes "of") (timed (at_moment said))

abbrev pub with_symbols : Said → List (List ℕ) → Next
with_symbols said names = linked (codes "and") (record said { symbols = Some names })

abbrev pub symbols_next : Said → Next
symbols_next said = needs (λ list. valued (symbols_of list.bytes) (UnknownWord list.at) (with_symbols said))

abbrev pub with_span : Said → ℕ → ℕ → Next
with_span said since until = linked (codes "and") (record said { span = Some (record { since = since; until = until }) })

abbrev pub end_next : Said → ℕ → Next
end_next said since = timed (λ until. cond (nat_lt since until) (with_span said since until) (refused EmptyRange))

abbrev pub until_next : Said → ℕ → Next
until_next said since = text (codes "until") (end_next said since)

abbrev pub with_kinds : Said → Kinds → Next
with_kinds said some = linked (codes "and") (record said { kinds = Some some })

abbrev pub kinds_next : Said → Next
kinds_next said = needs (λ list. valued (kinds_of list.bytes) (UnknownWord list.at) (with_kinds said))

-- no condition was given yet
pub record IsBare (said : Said) : Type 0 where
  pub symbols : said.symbols ≡ None
  pub span : said.span ≡ None
  pub kinds : said.kinds ≡ None

is_opened : {R A : Type 0} (o : Option A) (w : Word) (n next : Next) → n ≡ opened w (is_some o) next → (o ≡ None → n ≡ next → R)
    → ((x : A) → o ≡ Some x → n ≡ refused (Repeated w.at) → R) → R
is_opened None w n next e new again = new refl e
is_opened (Some x) w n next e new again = again x refl e

-- the first word of a condition: it is new, or given again, or no such word
pub condition_cases : {R : Type 0} (said : Said) (w : Word)
    → (reads_as (codes "symbol") w ≡ true → said.symbols ≡ None → step (condition said) w ≡ symbol_list said → R)
    → (reads_as (codes "time") w ≡ true → said.span ≡ None → step (condition said) w ≡ time_span said → R)
    → (reads_as (codes "kind") w ≡ true → said.kinds ≡ None → step (condition said) w ≡ kind_list said → R)
    → ((IsBare said → ⊥) → begins_again w (meaning_of said) ≡ true → step (condition said) w ≡ refused (Repeated w.at) → R)
    → (begins_again w (meaning_of said) ≡ false → step (condition said) w ≡ refused (UnknownWord w.at) → R) → R
unfolding step
condition_cases said w symbols times kinds again unknown =
    let n : Next = step (condition said) w in
    let third : Next = cond (reads_as (codes "kind") w) (opened w (is_some said.kinds) (kind_list said)) (refused (UnknownWord w.at)) in
    let second : Next = cond (reads_as (codes "time") w) (opened w (is_some said.span) (time_span said)) third in
    either n (reads_as (codes "symbol") w) (opened w (is_some said.symbols) (symbol_list said)) second refl
    (λ is e. is_opened said.symbols w n (symbol_list said) e (symbols is) (λ x some f. again (λ bare. absurd (cc)) (rw (is, some) refl) f))
    (λ a e. either n (reads_as (codes "time") w) (opened w (is_some said.span) (time_span said)) third e
    (λ is f. is_opened said.span w n (time_span said) f (times is) (λ x some g. again (λ bare. absurd (cc)) (rw (a, is, some) refl) g))
    (λ b f. either n (reads_as (codes "kind") w) (opened w (is_some said.kinds) (kind_list said)) (refused (UnknownWord w.at)) f
    (λ is g. is_opened said.kinds w n (kind_list said) g (kinds is) (λ x some h. again (λ bare. absurd (cc)) (rw (a, b, is) refl) h))
    (λ c g. unknown (rw (a, b, c) refl) g)))

-- words, and what must come next after them, if none of them is wrong
pub data Place : List Word → Next → Type 0 where
  start : {ws : List Word} → ws ≡ [] → Place ws query
  number : {ws : List Word} (a : ℕ) → ws ≡ word a (codes "bars") ∷ [] → Place ws width
  unit : {ws : List Word} (a : ℕ) (n : Word) (count : ℕ) → ws ≡ word a (codes "bars") ∷ n ∷ [] → count_of n.bytes ≡ Some count → Place ws (unit_next n count)
  what : {ws : List Word} (said : Said) → IsBare said → Place ws (moment said)
  as_word : {ws : List Word} (first : List Word) (a : ℕ) (said : Said) → ws ≡ first ++ (word a (codes "as") ∷ []) → IsBare said → Place ws (of_next said)
  of_word : {ws : List Word} (first : List Word) (a b : ℕ) (said : Said) → ws ≡ first ++ (word a (codes "as") ∷ word b (codes "of") ∷ []) → IsBare said
      → Place ws (timed (at_moment said))
  time_of_day : {ws : List Word} (said : Said) → IsBare said → Place ws (linked (codes "where") said)
  first_condition : {ws : List Word} (said : Said) → IsBare said → Place ws (condition said)
  given : {ws : List Word} (said : Said) → Place ws (linked (codes "and") said)
  next_condition : {ws : List Word} (first : List Word) (a : ℕ) (said : Said) → ws ≡ first ++ (word a (codes "and") ∷ [])
      → lead first ≡ linked (codes "and") said → Place ws (condition said)
  symbol_word : {ws : List Word} (said : Said) → Place ws (symbol_list said)
  symbols_in : {ws : List Word} (said : Said) → Place ws (symbols_next said)
  time_word : {ws : List Word} (first : List Word) (a : ℕ) (said : Said) → ws ≡ first ++ (word a (codes "time") ∷ []) → Place ws (time_span said)
  from_word : {ws : List Word} (first : List Word) (a b : ℕ) (said : Said) → ws ≡ first ++ (word a (codes "time") ∷ word b (codes "from") ∷ [])
      → Place ws (timed (until_next said))
  since_word : {ws : List Word} (first : List Word) (a b : ℕ) (v : Word) (since : ℕ) (said : Said)
      → ws ≡ first ++ (word a (codes "time") ∷ word b (codes "from") ∷ v ∷ []) → time_of v.bytes ≡ Some since
      → Begins (first ++ (word a (codes "time") ∷ word b (codes "from") ∷ [])) → Place ws (until_next said since)
  until_word : {ws : List Word} (first : List Word) (a b c : ℕ) (v : Word) (since : ℕ) (said : Said)
      → ws ≡ first ++ (word a (codes "time") ∷ word b (codes "from") ∷ v ∷ word c (codes "until") ∷ []) → time_of v.bytes ≡ Some since
      → Begins (first ++ (word a (codes "time") ∷ word b (codes "from") ∷ [])) → Place ws (end_next said since)
  kind_word : {ws : List Word} (said : Said) → Place ws (kind_list said)
  kinds_in : {ws : List Word} (said : Said) → Place ws (kinds_next said)
