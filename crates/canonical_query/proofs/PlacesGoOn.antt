-- Words that lead to a place go on: a query begins with them, or they are one of three beginnings that are let pass.
use Rattle.std.proofs.Common.{◌≡◌, ℕ, ◌*◌, true, false, nat_lt, List, [], ◌∷◌, ◌++◌, Some, refl, sym, ap, ◌∙◌, subst, arith, codes, map, ◌⊎◌, inl, inr}
use Rattle.std.specs.Prelude.{is_some, Ok}
use Rattle.std.proofs.lemmas.Bool.{cases_Bool}
use Rattle.base.specs.declared.limits.TheConstants.{SECONDS_OF_DAY}
use Rattle.meaning.specs.Meaning.{Kinds, Meaning, Span, is_width, is_symbol}
use Rattle.meaning.specs.declared.query.What.TheVariants.{Bars}
use Rattle.query.specs.Words.{Word, word}
use Rattle.query.specs.Values.{count_of, unit_of, pair_at, clock_of, time_of, symbols_of, kinds_of}
use Rattle.query.specs.Grammar.{Said, only, meaning_of, Means}
use Rattle.query.specs.Faults.{Next, QueryFault, UnknownWord, Repeated, ended, read_from, step, timed, refused, condition, linked, query}
use Rattle.query.proofs.WordByWord.{reads, read_end, stays}
use Rattle.query.proofs.MeaningOrFault.{means_from_read, means_read}
use Rattle.canonical_query.specs.WrongWords.{Begins, GoesOn}
use Rattle.canonical_query.proofs.Places.{lead, read_more, none_or_some, until_next, condition_cases, Place, start, number, unit, what, as_word, of_word}
use Rattle.canonical_query.proofs.Places.{time_of_day, first_condition, given, next_condition, symbol_word, symbols_in, time_word, from_word, since_word}
use Rattle.canonical_query.proofs.Places.{until_word, kind_word, kinds_in}

-- a query begins with words, if a few more lead from where they do to one
pub begins : (ws : List Word) (s : Next) → lead ws ≡ s → (more : List (List ℕ)) {q : Meaning} → read_from s (map (word 0) more) ≡ Ok q → Begins ws
begins ws s here more {q} read = (
  map (word 0) more,
  q,
  means_from_read q (ws ++ map (word 0) more)
      (read_more query ws (map (word 0) more) ∙ ap (λ n. read_from n (map (word 0) more)) here ∙ read),
)

pub span_begins : (ws : List Word) (said : Said) → lead ws ≡ timed (until_next said) → Begins ws
unfolding read_from step time_of clock_of pair_at
span_begins ws said here = begins ws _ here (codes "00:00:00" ∷ codes "until" ∷ codes "24:00:00" ∷ []) refl

-- with a condition of each sort nothing can follow `and`
no_more : (said : Said) (names : List (List ℕ)) (times : Span) (some : Kinds) → said.symbols ≡ Some names → said.span ≡ Some times → said.kinds ≡ Some some
    → (more : List Word) (q : Meaning) → read_from (condition said) more ≡ Ok q → ⊥
no_more said names times some a b c [] q e = let end = read_end (condition said) [] refl in absurd (cc)
no_more said names times some a b c (w ∷ more) q e =
    let fails : (fault : QueryFault) → step (condition said) w ≡ refused fault → ⊥ =
    λ fault f. let none = reads (condition said) w more ∙ ap (λ n. read_from n more) f ∙ stays fault more in absurd (cc) in
    condition_cases said w (λ is new f. absurd (cc)) (λ is new f. absurd (cc)) (λ is new f. absurd (cc)) (λ some again f. fails (Repeated w.at) f)
    (λ none f. fails (UnknownWord w.at) f)

-- words that lead to where no query can be reached begin none
begins_none : (ws : List Word) (s : Next) → lead ws ≡ s → ((more : List Word) (q : Meaning) → read_from s more ≡ Ok q → ⊥) → Begins ws → ⊥
begins_none ws s here none b =
    let read : read_from s b.0 ≡ Ok b.1 = ap (λ n. read_from n b.0) (sym here) ∙ sym (read_more query ws b.0) ∙ means_read b.2 in
    none b.0 b.1 read

-- the query that words mean where they may end
pub means_here : (ws : List Word) (link : List ℕ) (said : Said) → lead ws ≡ linked link said → Means ws (meaning_of said)
unfolding read_from
means_here ws link said here = means_from_read (meaning_of said) ws (ap ended here)

conditions_go_on : (ws first : List Word) (a : ℕ) (said : Said) → ws ≡ first ++ (word a (codes "and") ∷ []) → lead first ≡ linked (codes "and") said
    → lead ws ≡ condition said → GoesOn ws
unfolding read_from step time_of clock_of pair_at symbols_of is_symbol kinds_of
conditions_go_on ws first a said parted there here =
    elim (none_or_some said.symbols) [
      | inl new ↦ inl (begins ws _ here symbol_words {q = meaning_of (record said { symbols = Some (codes "A" ∷ []) })} (rw new refl))
      | inr names ↦ elim (none_or_some said.span) [
        | inl new ↦
            inl (begins ws _ here time_words {q = meaning_of (record said { span = Some (record { since = 0; until = SECONDS_OF_DAY }) })} (rw new refl))
        | inr times ↦ elim (none_or_some said.kinds) [
          | inl new ↦
              inl (begins ws _ here kind_words {q = meaning_of (record said { kinds = Some (record { e = true; c = false; p = false; q = false }) })}
              (rw new refl))
          | inr some ↦ inr (inr (inr (record {
            first = first;
            at_and = a;
            query = meaning_of said;
            parted = parted;
            means = means_here first (codes "and") said there;
            listed = ap is_some names.1;
            none = begins_none ws (condition said) here (no_more said names.0 times.0 some.0 names.1 times.1 some.1);
          })))
        ]
      ]
    ]
  where
    symbol_words : List (List ℕ)
    symbol_words = codes "symbol" ∷ codes "in" ∷ codes "A" ∷ []

    time_words : List (List ℕ)
    time_words = codes "time" ∷ codes "from" ∷ codes "00:00:00" ∷ codes "until" ∷ codes "24:00:00" ∷ []

    kind_words : List (List ℕ)
    kind_words = codes "kind" ∷ codes "in" ∷ codes "E" ∷ []

-- a span's start is before the day's end, or no query begins with it
end_or_none : (ws first rest : List Word) (a b : ℕ) (v : Word) (since : ℕ) → ws ≡ first ++ (word a (codes "time") ∷ word b (codes "from") ∷ v ∷ rest)
    → (rest ≡ []) ⊎ ((c : ℕ) × (rest ≡ word c (codes "until") ∷ [])) → Begins (first ++ (word a (codes "time") ∷ word b (codes "from") ∷ []))
    → time_of v.bytes ≡ Some since → (nat_lt since SECONDS_OF_DAY ≡ true → Begins ws) → GoesOn ws
end_or_none ws first rest a b v since e up_to begun starts early =
    elim (cases_Bool (nat_lt since SECONDS_OF_DAY)) [
      | inl is ↦ inl (early is)
      | inr late ↦ inr (inr (inl (record {
        first = first;
        at_time = a;
        at_from = b;
        start = v;
        since = since;
        rest = rest;
        parted = e;
        up_to = up_to;
        begun = begun;
        starts = starts;
        no_later = late;
      })))
    ]

pub goes_on : (ws : List Word) (s : Next) → lead ws ≡ s → Place ws s → GoesOn ws
unfolding read_from step count_of unit_of time_of clock_of pair_at symbols_of is_symbol kinds_of
goes_on ws s here (start e) = inl (begins ws s here (codes "sales" ∷ []) refl)
goes_on ws s here (number a e) = inl (begins ws s here (codes "1" ∷ codes "s" ∷ []) refl)
goes_on ws s here (unit a n count e counted) =
    elim (cases_Bool (is_width count)) [
      | inl fits ↦
          let same : count ≡ count * 1 = omega arith in
          let wide : is_width (count * 1) ≡ true = subst (λ k. is_width k ≡ true) same fits in
          inl (begins ws s here (codes "s" ∷ []) {q = meaning_of (only (Bars (count * 1)))} (rw wide refl))
      | inr none ↦ inr (inl (record { at_bars = a; number = n; count = count; parted = e; counted = counted; no_width = none }))
    ]
goes_on ws s here (what said bare) = inl (begins ws s here [] refl)
goes_on ws s here (as_word first a said e bare) = inl (begins ws s here (codes "of" ∷ codes "00:00:00" ∷ []) refl)
goes_on ws s here (of_word first a b said e bare) = inl (begins ws s here (codes "00:00:00" ∷ []) refl)
goes_on ws s here (time_of_day said bare) = inl (begins ws s here [] refl)
goes_on ws s here (first_condition said bare) =
    inl (begins ws s here (codes "symbol" ∷ codes "in" ∷ codes "A" ∷ []) {q = meaning_of (record said { symbols = Some (codes "A" ∷ []) })}
    (rw bare.symbols refl))
goes_on ws s here (given said) = inl (begins ws s here [] refl)
goes_on ws s here (next_condition first a said e there) = conditions_go_on ws first a said e there here
goes_on ws s here (symbol_word said) = inl (begins ws s here (codes "in" ∷ codes "A" ∷ []) refl)
goes_on ws s here (symbols_in said) = inl (begins ws s here (codes "A" ∷ []) refl)
goes_on ws s here (time_word first a said e) =
    inl (begins ws s here (codes "from" ∷ codes "00:00:00" ∷ codes "until" ∷ codes "24:00:00" ∷ []) refl)
goes_on ws s here (from_word first a b said e) = inl (span_begins ws said here)
goes_on ws s here (since_word first a b v since said e starts begun) =
    end_or_none ws first [] a b v since e (inl refl) begun starts
    (λ early. begins ws s here (codes "until" ∷ codes "24:00:00" ∷ [])
    {q = meaning_of (record said { span = Some (record { since = since; until = SECONDS_OF_DAY }) })} (rw early refl))
goes_on ws s here (until_word first a b c v since said e starts begun) =
    end_or_none ws first (word c (codes "until") ∷ []) a b v since e (inr (c, refl)) begun starts
    (λ early. begins ws s here (codes "24:00:00" ∷ [])
    {q = meaning_of (record said { span = Some (record { since = since; until = SECONDS_OF_DAY }) })} (rw early refl))
goes_on ws s here (kind_word said) = inl (begins ws s here (codes "in" ∷ codes "E" ∷ []) refl)
goes_on ws s here (kinds_in said) = inl (begins ws s here (codes "E" ∷ []) refl)
