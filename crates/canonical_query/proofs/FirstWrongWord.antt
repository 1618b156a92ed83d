-- The first fault of some words is that of the word with which, by the grammar, no query goes on any more.
use Rattle.std.proofs.Common.{◌≡◌, ℕ, true, cond, nat_lt, List, [], ◌∷◌, ◌++◌, Some, None, refl, sym, ap, ◌∙◌, subst, codes}
use Rattle.std.proofs.Common.{◌&&◌, ◌⊎◌, inl, inr, append_assoc, fold}
use Rattle.std.specs.Prelude.{is_some, Ok, Err}
use Rattle.std.specs.Result.{result_err}
use Rattle.std.proofs.lemmas.Bool.{and_parts, cases_Bool, or_cases}
use Rattle.std.proofs.lemmas.List.Sums.{fold-append}
use Rattle.meaning.specs.Meaning.{Meaning, is_symbol}
use Rattle.query.specs.Words.{Word, word, reads_as}
use Rattle.query.specs.Values.{count_of, unit_of, clock_of, time_of, symbols_of, kinds_of}
use Rattle.query.specs.Grammar.{Said, meaning_of, Means}
use Rattle.query.specs.Faults.{Next, QueryFault, UnknownWord, BadNumber, BadTime, Repeated, EmptyRange, Incomplete, ended, first_query_fault, read_from, step}
use Rattle.query.specs.Faults.{timed, valued, refused, condition, query, width}
use Rattle.query.proofs.WordByWord.{reads, stays}
use Rattle.query.proofs.MeaningOrFault.{means_from_read, means_read, same_word}
use Rattle.canonical_query.specs.WrongWords.{GoesOn, HasNoUnit, HasNoEnd, HasNoCondition, HasOwnFault, HasWrong, IsFirstFault, IsWrong}
use Rattle.canonical_query.specs.WrongWords.{IsAgain, IsNoLater, IsNoNumber, IsNoTime, IsNoWidth, lead_to_time, begins_again}
use Rattle.canonical_query.proofs.Places.{lead, read_more, one_more, not_refused, none_or_some, unit_next, at_moment, with_span, end_next}
use Rattle.canonical_query.proofs.Places.{until_next, condition_cases, Place, what, time_of_day, first_condition, given, next_condition, symbols_in, time_word}
use Rattle.canonical_query.proofs.PlacesGoOn.{goes_on}
use Rattle.canonical_query.proofs.PlaceToPlace.{Tells, one_step, Found, found, reached, behind}

-- ---- words that go on aren't refused

unit_goes_on : (ws : List Word) (fault : QueryFault) → lead ws ≡ refused fault → HasNoUnit ws → ⊥
unfolding step
unit_goes_on ws fault e d =
    let here : lead ws ≡ unit_next d.number d.count =
    ap lead d.parted ∙ ap (λ o. valued o (BadNumber d.number.at) (unit_next d.number)) d.counted in
    absurd (cc)

stays_refused : (fault : QueryFault) (ws : List Word) → fold step (refused fault) ws ≡ refused fault
unfolding step
stays_refused fault [] = refl
stays_refused fault (w ∷ ws) = stays_refused fault ws

-- behind a query with a condition comes `and`, and then a condition
and_follows : (ws : List Word) (n : Next) (q : Meaning) (at : ℕ) → Place ws n → ended n ≡ Ok q
    → ((said : Said) × (meaning_of said ≡ q) × (step n (word at (codes "and")) ≡ condition said))
    ⊎ ((fault : QueryFault) × (step n (word at (codes "and")) ≡ refused fault) × (q.symbols ≡ None))
unfolding step
and_follows ws n q at (given said) e = let same : meaning_of said ≡ q = cc in inl (said, same, refl)
and_follows ws n q at (what said bare) e =
    let same : q ≡ meaning_of said = cc in inr (UnknownWord at, refl, ap (λ m. m.symbols) same ∙ bare.symbols)
and_follows ws n q at (time_of_day said bare) e =
    let same : q ≡ meaning_of said = cc in inr (UnknownWord at, refl, ap (λ m. m.symbols) same ∙ bare.symbols)
and_follows ws n q at _ e = absurd (cc)

-- the words of a query and `and` lead to a condition, or are refused
query_and : (ws first : List Word) (at : ℕ) (q : Meaning) → ws ≡ first ++ (word at (codes "and") ∷ []) → Means first q
    → ((said : Said) × (meaning_of said ≡ q) × (lead ws ≡ condition said)) ⊎ ((fault : QueryFault) × (lead ws ≡ refused fault) × (q.symbols ≡ None))
unfolding read_from
query_and ws first at q e means =
    let read : ended (lead first) ≡ Ok q = means_read means in
    elim (reached first) [
      | inl x ↦ elim (and_follows first x.0 q at x.2 (ap ended (sym x.1) ∙ read)) [
        | inl y ↦ inl (y.0, y.1, ap lead e ∙ one_more first x.0 (condition y.0) (word at (codes "and")) x.1 y.2)
        | inr y ↦ inr (y.0, ap lead e ∙ one_more first x.0 (refused y.0) (word at (codes "and")) x.1 y.1, y.2)
      ]
      | inr x ↦ absurd (cc (ap ended x.1))
    ]

condition_goes_on : (ws : List Word) (fault : QueryFault) → lead ws ≡ refused fault → HasNoCondition ws → ⊥
condition_goes_on ws fault e d =
    elim (query_and ws d.first d.at_and d.query d.parted d.means) [
      | inl y ↦ let here = y.2 in absurd (cc)
      | inr y ↦ let listed = d.listed in let none = y.2 in absurd (cc (ap is_some none))
    ]

-- a time comes next, or the words are refused
abbrev TimeNext : Next → Type 0
TimeNext n = ((next : ℕ → Next) × (n ≡ timed next)) ⊎ ((fault : QueryFault) × (n ≡ refused fault))

-- the same, of a span's start
abbrev StartNext : Next → Type 0
StartNext n = ((said : Said) × (n ≡ timed (until_next said))) ⊎ ((fault : QueryFault) × (n ≡ refused fault))

start_next : (ws : List Word) (a b : ℕ) (n : Next) → Place ws n → StartNext (step (step n (word a (codes "time"))) (word b (codes "from")))
unfolding step count_of unit_of time_of clock_of symbols_of is_symbol kinds_of
start_next ws a b n (first_condition said bare) = inl (said, rw bare.span refl)
start_next ws a b n (next_condition first c said e there) =
    elim (none_or_some said.span) [
      | inl none ↦ inl (said, rw none refl)
      | inr some ↦ inr (Repeated a, rw some.1 refl)
    ]
start_next ws a b n _ = inr (_, refl)

moment_next : (ws : List Word) (a b : ℕ) (n : Next) → Place ws n → TimeNext (step (step n (word a (codes "as"))) (word b (codes "of")))
unfolding step count_of unit_of time_of clock_of symbols_of is_symbol kinds_of
moment_next ws a b n (what said bare) = inl (at_moment said, refl)
moment_next ws a b n _ = inr (_, refl)

last_next : (ws : List Word) (a b : ℕ) (v : Word) (n : Next) → Place ws n → TimeNext (step (step (step n (word a (codes "from"))) v) (word b (codes "until")))
unfolding step count_of unit_of time_of clock_of symbols_of is_symbol kinds_of
last_next ws a b v n (time_word first c said e) =
    elim (none_or_some (time_of v.bytes)) [
      | inl none ↦ inr (BadTime v.at, rw none refl)
      | inr t ↦ inl ((λ until. cond (nat_lt t.0 until) (with_span said t.0 until) (refused EmptyRange)), rw t.1 refl)
    ]
last_next ws a b v n (symbols_in said) =
    elim (cases_Bool (reads_as (codes "and") v)) [
      | inl is ↦ inr (UnknownWord b, rw is refl)
      | inr other ↦ inr (UnknownWord v.at, rw other refl)
    ]
last_next ws a b v n _ = inr (_, refl)

start_follows : (first : List Word) (a b : ℕ) → StartNext (lead (first ++ (word a (codes "time") ∷ word b (codes "from") ∷ [])))
unfolding step
start_follows first a b =
    behind first (word a (codes "time") ∷ word b (codes "from") ∷ []) StartNext (start_next first a b) (λ fault. inr (fault, refl))

-- behind a span's start comes `until`, or the words up to `from` are refused
until_follows : (ws first rest : List Word) (a b : ℕ) (v : Word) (since : ℕ) → ws ≡ first ++ (word a (codes "time") ∷ word b (codes "from") ∷ v ∷ rest)
    → time_of v.bytes ≡ Some since
    → ((said : Said) × (lead ws ≡ fold step (until_next said since) rest))
    ⊎ ((fault : QueryFault) × (lead (first ++ (word a (codes "time") ∷ word b (codes "from") ∷ [])) ≡ refused fault) × (lead ws ≡ refused fault))
unfolding step
until_follows ws first rest a b v since e starts =
    let opening : List Word = word a (codes "time") ∷ word b (codes "from") ∷ [] in
    let whole : lead ws ≡ fold step (lead (first ++ opening)) (v ∷ rest) =
    ap lead (e ∙ sym (append_assoc first opening (v ∷ rest))) ∙ fold-append step query (first ++ opening) (v ∷ rest) in
    elim (start_follows first a b) [
      | inl y ↦
          inl (y.0, whole ∙ ap (λ n. fold step n (v ∷ rest)) y.1 ∙ ap (λ o. fold step (valued o (BadTime v.at) (until_next y.0)) rest) starts)
      | inr y ↦ inr (y.0, y.1, whole ∙ ap (λ n. fold step n (v ∷ rest)) y.1 ∙ stays_refused y.0 rest)
    ]

end_goes_on : (ws : List Word) (fault : QueryFault) → lead ws ≡ refused fault → HasNoEnd ws → ⊥
unfolding step
end_goes_on ws fault e d =
    elim (until_follows ws d.first d.rest d.at_time d.at_from d.start d.since d.parted d.starts) [
      | inl y ↦ elim d.up_to [
        | inl none ↦ let here : lead ws ≡ until_next y.0 d.since = y.1 ∙ ap (fold step (until_next y.0 d.since)) none in absurd (cc)
        | inr more ↦ let here : lead ws ≡ end_next y.0 d.since = y.1 ∙ ap (fold step (until_next y.0 d.since)) more.1 in absurd (cc)
      ]
      | inr y ↦ not_refused (d.first ++ (word d.at_time (codes "time") ∷ word d.at_from (codes "from") ∷ [])) y.0 y.1 d.begun
    ]

no_fault_goes_on : (ws : List Word) (fault : QueryFault) → lead ws ≡ refused fault → GoesOn ws → ⊥
no_fault_goes_on ws fault e (inl b) = not_refused ws fault e b
no_fault_goes_on ws fault e (inr (inl d)) = unit_goes_on ws fault e d
no_fault_goes_on ws fault e (inr (inr (inl d))) = end_goes_on ws fault e d
no_fault_goes_on ws fault e (inr (inr (inr d))) = condition_goes_on ws fault e d

-- ---- a word's own fault is what it leads to

renamed : (bytes : List ℕ) (w : Word) (P : Word → Type 0) → reads_as bytes w ≡ true → P (word w.at bytes) → P w
renamed bytes w P is h = subst P (sym (same_word bytes w is)) h

-- words that end as those before a time do lead to one
time_follows : (first last : List Word) → lead_to_time last ≡ true → TimeNext (lead (first ++ last))
unfolding step
time_follows first (v ∷ w ∷ []) h =
    elim (or_cases (reads_as (codes "as") v && reads_as (codes "of") w) (reads_as (codes "time") v && reads_as (codes "from") w) h) [
      | inl x ↦
          let is = and_parts (reads_as (codes "as") v) (reads_as (codes "of") w) x in
          renamed (codes "as") v (λ y. TimeNext (lead (first ++ (y ∷ w ∷ [])))) is.0
          (renamed (codes "of") w (λ y. TimeNext (lead (first ++ (word v.at (codes "as") ∷ y ∷ [])))) is.1
          (behind first (word v.at (codes "as") ∷ word w.at (codes "of") ∷ []) TimeNext (moment_next first v.at w.at) (λ fault. inr (fault, refl))))
      | inr x ↦
          let is = and_parts (reads_as (codes "time") v) (reads_as (codes "from") w) x in
          renamed (codes "time") v (λ y. TimeNext (lead (first ++ (y ∷ w ∷ [])))) is.0
          (renamed (codes "from") w (λ y. TimeNext (lead (first ++ (word v.at (codes "time") ∷ y ∷ [])))) is.1
          (elim (start_follows first v.at w.at) [ inl y ↦ inl (until_next y.0, y.1) | inr y ↦ inr y ]))
    ]
time_follows first (v ∷ u ∷ w ∷ []) h =
    let is = and_parts (reads_as (codes "from") v) (reads_as (codes "until") w) h in
    renamed (codes "from") v (λ y. TimeNext (lead (first ++ (y ∷ u ∷ w ∷ [])))) is.0
    (renamed (codes "until") w (λ y. TimeNext (lead (first ++ (word v.at (codes "from") ∷ u ∷ y ∷ [])))) is.1
    (behind first (word v.at (codes "from") ∷ u ∷ word w.at (codes "until") ∷ []) TimeNext (last_next first v.at w.at u) (λ fault. inr (fault, refl))))
time_follows first _ h = absurd (cc)

-- a condition that is given again is refused as such
again_is_refused : (said : Said) (w : Word) (met : QueryFault) → begins_again w (meaning_of said) ≡ true → step (condition said) w ≡ refused met
    → Repeated w.at ≡ met
again_is_refused said w met h e =
    condition_cases said w (λ is new f. absurd (cc)) (λ is new f. absurd (cc)) (λ is new f. absurd (cc)) (λ some again f. cc) (λ none f. absurd (cc))

module _ (seen : List Word) (n : Next) (w : Word) (met : QueryFault) (here : lead seen ≡ n) (place : Place seen n) (e : step n w ≡ refused met) where
  -- the words before it aren't refused
  right : (fault : QueryFault) → lead seen ≡ refused fault → ⊥
  right fault r = no_fault_goes_on seen fault r (goes_on seen n here place)

  -- what comes next is known
  leads_to : (m : Next) (fault : QueryFault) → lead seen ≡ m → step m w ≡ refused fault → fault ≡ met
  leads_to m fault there f =
      let both : step m w ≡ refused met = ap (λ x. step x w) (sym there ∙ here) ∙ e in cc

  own_time : IsNoTime seen w → BadTime w.at ≡ met
  unfolding step
  own_time h =
      elim (time_follows h.first h.last h.leads) [
        | inl x ↦
            leads_to (timed x.0) (BadTime w.at) (ap lead h.parted ∙ x.1) (ap (λ o. valued o (BadTime w.at) x.0) h.no_time)
        | inr x ↦ absurd (right x.0 (ap lead h.parted ∙ x.1))
      ]

  own_again : IsAgain seen w → Repeated w.at ≡ met
  own_again h =
      elim (query_and seen h.first h.at_and h.query h.parted h.means) [
        | inl x ↦
            let again : begins_again w (meaning_of x.0) ≡ true = subst (λ q. begins_again w q ≡ true) (sym x.1) h.again in
            let f : step (condition x.0) w ≡ refused met = ap (λ m. step m w) (sym x.2 ∙ here) ∙ e in
            again_is_refused x.0 w met again f
        | inr x ↦ absurd (right x.0 x.1)
      ]

  own_number : IsNoNumber seen w → BadNumber w.at ≡ met
  unfolding step
  own_number h = leads_to width (BadNumber w.at) (ap lead h.parted) (ap (λ o. valued o (BadNumber w.at) (unit_next w)) h.no_number)

  own_width : (v : Word) → IsNoWidth seen v w → BadNumber v.at ≡ met
  unfolding step
  own_width v h =
      leads_to (unit_next v h.count) (BadNumber v.at) (ap lead h.parted ∙ ap (λ o. valued o (BadNumber v.at) (unit_next v)) h.counted)
      (rw (h.unit, h.no_width) refl)

  own_range : IsNoLater seen w → EmptyRange ≡ met
  unfolding step
  own_range h =
      elim (until_follows seen h.first (word h.at_until (codes "until") ∷ []) h.at_time h.at_from h.start h.since h.parted h.starts) [
        | inl y ↦ leads_to (end_next y.0 h.since) EmptyRange y.1 (rw (h.ends, h.no_later) refl)
        | inr y ↦ absurd (right y.0 y.2)
      ]

  own_fault : (fault : QueryFault) → HasOwnFault seen w fault → fault ≡ met
  own_fault (BadTime at) h = ap BadTime h.0 ∙ own_time h.1
  own_fault (Repeated at) h = ap Repeated h.0 ∙ own_again h.1
  own_fault (BadNumber at) (inl h) = ap BadNumber h.0 ∙ own_number h.1
  own_fault (BadNumber at) (inr h) = ap BadNumber h.1 ∙ own_width h.0 h.2
  own_fault EmptyRange h = own_range h
  own_fault _ h = absurd h

why_wrong : (seen : List Word) (n : Next) (w : Word) (met : QueryFault) → lead seen ≡ n → Place seen n → step n w ≡ refused met → Tells seen w met
    → IsWrong seen w met
why_wrong seen n w (UnknownWord at) here place e t =
    (t, λ fault own. subst (HasOwnFault seen w) (own_fault seen n w (UnknownWord at) here place e fault own) own)
why_wrong seen n w _ here place e t = t

only_wrong : (seen : List Word) (n : Next) (w : Word) (fault met : QueryFault) → lead seen ≡ n → Place seen n → step n w ≡ refused met
    → IsWrong seen w fault → Tells seen w met → fault ≡ met
only_wrong seen n w (UnknownWord at) (UnknownWord other) here place e why t = ap UnknownWord (why.0 ∙ sym t)
only_wrong seen n w (UnknownWord at) met here place e why t = absurd (why.1 met t)
only_wrong seen n w fault met here place e why t = own_fault seen n w met here place e fault why

-- ---- the law

-- where words end, they mean a query, or lack more words
at_end : (ws : List Word) (n : Next) → Place ws n → ((q : Meaning) × (ended n ≡ Ok q)) ⊎ (ended n ≡ Err Incomplete)
at_end ws n (what said bare) = inl (meaning_of said, refl)
at_end ws n (time_of_day said bare) = inl (meaning_of said, refl)
at_end ws n (given said) = inl (meaning_of said, refl)
at_end ws n _ = inr refl

no_meaning : (ws : List Word) (n : Next) → lead ws ≡ n → ended n ≡ Err Incomplete → (q : Meaning) → Means ws q → ⊥
unfolding read_from
no_meaning ws n here e q m =
    let read : ended (lead ws) ≡ Ok q = means_read m in
    let end = ap ended here in
    absurd (cc)

told : (ws : List Word) (fault : QueryFault) → HasWrong ws fault → IsFirstFault ws fault
told ws Incomplete h = absurd h.why
told ws _ h = h

found_is_wrong : (ws : List Word) (fault : QueryFault) → Found ws fault → HasWrong ws fault
found_is_wrong ws fault (found before after wrong n parted there place fails tells) =
    record {
      before = before;
      wrong = wrong;
      after = after;
      parted = parted;
      right = goes_on before n there place;
      none = no_fault_goes_on (before ++ (wrong ∷ [])) fault (one_more before n (refused fault) wrong there fails);
      why = why_wrong before n wrong fault there place fails tells;
    }

-- words with a first wrong word have its fault as their first
wrong_is_first : (ws : List Word) (fault : QueryFault) → HasWrong ws fault → first_query_fault ws ≡ Some fault
wrong_is_first ws fault h =
    elim (reached h.before) [
      | inl x ↦ elim (one_step h.before x.0 h.wrong x.1 x.2) [
        | inl y ↦ absurd (h.none (goes_on (h.before ++ (h.wrong ∷ [])) y.0 (one_more h.before x.0 y.0 h.wrong x.1 y.1) y.2))
        | inr y ↦
            let same : y.0 ≡ fault = sym (only_wrong h.before x.0 h.wrong fault y.0 x.1 x.2 y.1 h.why y.2) in
            let read : read_from query ws ≡ Err y.0 =
            ap (read_from query) h.parted ∙ read_more query h.before (h.wrong ∷ h.after) ∙ reads (lead h.before) h.wrong h.after
            ∙ ap (λ n. read_from n h.after) (ap (λ n. step n h.wrong) x.1 ∙ y.1) ∙ stays y.0 h.after in
            ap result_err read ∙ ap Some same
      ]
      | inr x ↦ absurd (no_fault_goes_on h.before x.0 x.1 h.right)
    ]

-- words of which none is wrong, and that mean nothing, lack more words
lacking_is_first : (ws : List Word) → GoesOn ws → ((q : Meaning) → Means ws q → ⊥) → first_query_fault ws ≡ Some Incomplete
unfolding read_from
lacking_is_first ws right none =
    elim (reached ws) [
      | inl x ↦ elim (at_end ws x.0 x.2) [
        | inl y ↦ absurd (none y.0 (means_from_read y.0 ws (ap ended x.1 ∙ y.1)))
        | inr end ↦ ap result_err (ap ended x.1 ∙ end)
      ]
      | inr x ↦ absurd (no_fault_goes_on ws x.0 x.1 right)
    ]

pub only_of_grammar : (ws : List Word) (fault : QueryFault) → IsFirstFault ws fault → first_query_fault ws ≡ Some fault
only_of_grammar ws Incomplete h = lacking_is_first ws h.0 h.1
only_of_grammar ws fault h = wrong_is_first ws fault h

-- the first fault of words is that of their first wrong word
pub of_grammar : (ws : List Word) (fault : QueryFault) → first_query_fault ws ≡ Some fault → IsFirstFault ws fault
unfolding read_from
of_grammar ws fault e =
    elim (reached ws) [
      | inl x ↦ elim (at_end ws x.0 x.2) [
        | inl y ↦ let read : first_query_fault ws ≡ None = ap result_err (ap ended x.1 ∙ y.1) in absurd (cc)
        | inr end ↦
            let read : first_query_fault ws ≡ Some Incomplete = ap result_err (ap ended x.1 ∙ end) in
            let same : Incomplete ≡ fault = cc in
            subst (IsFirstFault ws) same (goes_on ws x.0 x.1 x.2, no_meaning ws x.0 x.1 end)
      ]
      | inr x ↦
          let read : first_query_fault ws ≡ Some x.0 = ap (λ n. result_err (ended n)) x.1 in
          let same : x.0 ≡ fault = cc in
          subst (IsFirstFault ws) same (told ws x.0 (found_is_wrong ws x.0 x.2))
    ]
