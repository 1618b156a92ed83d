-- A word behind words that lead to a place leads to the next place, or has a fault.
use Rattle.std.proofs.Common.{◌≡◌, ℕ, ◌*◌, true, cond, nat_lt, List, [], ◌∷◌, ◌++◌, Option, Some, refl, sym, ap, ◌∙◌, subst, codes}
use Rattle.std.proofs.Common.{◌⊎◌, inl, inr, append_assoc, append-nil, fold}
use Rattle.std.proofs.lemmas.List.Sums.{fold-append}
use Rattle.meaning.specs.Meaning.{is_width}
use Rattle.meaning.specs.declared.query.What.TheVariants.{Bars, Sales}
use Rattle.meaning.specs.declared.query.What.{What}
use Rattle.query.specs.Words.{Word, word, reads_as}
use Rattle.query.specs.Values.{count_of, unit_of, time_of, symbols_of, kinds_of}
use Rattle.query.specs.Grammar.{Said, only, meaning_of}
use Rattle.query.specs.Faults.{Next, QueryFault, UnknownWord, BadNumber, BadTime, Repeated, EmptyRange, step, text, timed, valued, refused, needs, condition}
use Rattle.query.specs.Faults.{linked, moment, query, width, symbol_list, time_span, kind_list}
use Rattle.query.proofs.MeaningOrFault.{same_word}
use Rattle.canonical_query.specs.WrongWords.{Begins, HasOwnFault, lead_to_time, begins_again}
use Rattle.canonical_query.proofs.Places.{lead, one_more, either, of_value, unit_next, at_moment, of_next}
use Rattle.canonical_query.proofs.Places.{with_symbols, symbols_next, with_span, end_next, until_next, with_kinds, kinds_next, IsBare}
use Rattle.canonical_query.proofs.Places.{condition_cases, Place, start, number, unit, what, as_word, of_word, time_of_day, first_condition, given}
use Rattle.canonical_query.proofs.Places.{next_condition, symbol_word, symbols_in, time_word, from_word, since_word, until_word, kind_word, kinds_in}
use Rattle.canonical_query.proofs.PlacesGoOn.{span_begins, means_here}

-- a word's own fault, or its place if it is unknown
abbrev pub Tells : List Word → Word → QueryFault → Type 0
Tells seen w (UnknownWord at) = at ≡ w.at
Tells seen w fault = HasOwnFault seen w fault

-- what a word behind others leads to: the next place, or its fault
abbrev Steps : List Word → Next → Word → Type 0
Steps seen s w =
    ((n : Next) × (step s w ≡ n) × Place (seen ++ (w ∷ [])) n)
    ⊎ ((fault : QueryFault) × (step s w ≡ refused fault) × Tells seen w fault)

bare_only : (x : What) → IsBare (only x)
bare_only x = record { symbols = refl; span = refl; kinds = refl }

longer : (seen first mid : List Word) (w v : Word) → seen ≡ first ++ mid → w ≡ v → seen ++ (w ∷ []) ≡ first ++ (mid ++ (v ∷ []))
longer seen first mid w v e is =
    ap (λ l. l ++ (w ∷ [])) e ∙ append_assoc first mid (w ∷ []) ∙ ap (λ x. first ++ (mid ++ (x ∷ []))) is

-- a word that must be a text
text_step : (seen : List Word) (bytes : List ℕ) (next : Next) (w : Word) → (w ≡ word w.at bytes → Place (seen ++ (w ∷ [])) next)
    → Steps seen (text bytes next) w
unfolding step
text_step seen bytes next w place =
    either (step (text bytes next) w) (reads_as bytes w) next (refused (UnknownWord w.at)) refl
    (λ is e. inl (next, e, place (same_word bytes w is))) (λ other e. inr (UnknownWord w.at, e, refl))

link_step : (seen : List Word) (link : List ℕ) (said : Said) (w : Word) → (w ≡ word w.at link → Place (seen ++ (w ∷ [])) (condition said))
    → Steps seen (linked link said) w
unfolding step
link_step seen link said w place =
    either (step (linked link said) w) (reads_as link w) (condition said) (refused (UnknownWord w.at)) refl
    (λ is e. inl (condition said, e, place (same_word link w is))) (λ other e. inr (UnknownWord w.at, e, refl))

-- a word that must stand for a list
list_step : {A : Type 0} (seen : List Word) (list_of : List ℕ → Option A) (next : A → Next) (w : Word) → ((x : A) → Place (seen ++ (w ∷ [])) (next x))
    → Steps seen (needs (λ list. valued (list_of list.bytes) (UnknownWord list.at) next)) w
unfolding step
list_step seen list_of next w place =
    of_value (step (needs (λ list. valued (list_of list.bytes) (UnknownWord list.at) next)) w) (list_of w.bytes) (UnknownWord w.at) next refl
    (λ x is e. inl (next x, e, place x)) (λ none e. inr (UnknownWord w.at, e, refl))

-- a word that must be a time, behind those that lead to one
time_step : (seen first last : List Word) (next : ℕ → Next) (w : Word) → seen ≡ first ++ last → lead_to_time last ≡ true
    → ((t : ℕ) → time_of w.bytes ≡ Some t → step (timed next) w ≡ next t → Steps seen (timed next) w) → Steps seen (timed next) w
unfolding step
time_step seen first last next w e leads some =
    of_value (step (timed next) w) (time_of w.bytes) (BadTime w.at) next refl some
    (λ none f. inr (BadTime w.at, f, (refl, record { first = first; last = last; parted = e; leads = leads; no_time = none })))

-- the first word of a condition, which may be given again only where one was given
condition_step : (seen : List Word) (said : Said) (w : Word)
    → ((IsBare said → ⊥) → begins_again w (meaning_of said) ≡ true → HasOwnFault seen w (Repeated w.at)) → Steps seen (condition said) w
condition_step seen said w again =
    condition_cases said w (λ is new e. inl (symbol_list said, e, symbol_word said))
    (λ is new e. inl (time_span said, e, time_word seen w.at said (ap (λ v. seen ++ (v ∷ [])) (same_word (codes "time") w is))))
    (λ is new e. inl (kind_list said, e, kind_word said))
    (λ some is e. inr (Repeated w.at, e, again some is)) (λ none e. inr (UnknownWord w.at, e, refl))

pub one_step : (seen : List Word) (s : Next) (w : Word) → lead seen ≡ s → Place seen s → Steps seen s w
unfolding step
one_step seen s w here (start e) =
    either (step query w) (reads_as (codes "sales") w) (moment (only Sales)) (cond (reads_as (codes "bars") w) width (refused (UnknownWord w.at))) refl
    (λ is f. inl (moment (only Sales), f, what (only Sales) (bare_only Sales)))
    (λ other f. either (step query w) (reads_as (codes "bars") w) width (refused (UnknownWord w.at)) f
    (λ is g. inl (width, g, number w.at (ap (λ l. l ++ (w ∷ [])) e ∙ ap (λ v. v ∷ []) (same_word (codes "bars") w is))))
    (λ unknown g. inr (UnknownWord w.at, g, refl)))
one_step seen s w here (number a e) =
    of_value (step width w) (count_of w.bytes) (BadNumber w.at) (unit_next w) refl
    (λ count is f. inl (unit_next w count, f, unit a w count (ap (λ l. l ++ (w ∷ [])) e) is))
    (λ none f. inr (BadNumber w.at, f, inl (refl, record { at_bars = a; parted = e; no_number = none })))
one_step seen s w here (unit a v count e counted) =
    let n : Next = step (unit_next v count) w in
    of_value n (unit_of w.bytes) (UnknownWord w.at)
    (λ seconds. cond (is_width (count * seconds)) (moment (only (Bars (count * seconds)))) (refused (BadNumber v.at))) refl
    (λ seconds is f. either n (is_width (count * seconds)) (moment (only (Bars (count * seconds)))) (refused (BadNumber v.at)) f
    (λ fits g. inl (moment (only (Bars (count * seconds))), g, what (only (Bars (count * seconds))) (bare_only (Bars (count * seconds)))))
    (λ none g. inr (
      BadNumber v.at,
      g,
      inr (v, refl, record { at_bars = a; count = count; seconds = seconds; parted = e; counted = counted; unit = is; no_width = none }),
    )))
    (λ none f. inr (UnknownWord w.at, f, refl))
one_step seen s w here (what said bare) =
    either (step (moment said) w) (reads_as (codes "as") w) (of_next said)
    (cond (reads_as (codes "where") w) (condition said) (refused (UnknownWord w.at))) refl
    (λ is e. inl (of_next said, e, as_word seen w.at said (ap (λ v. seen ++ (v ∷ [])) (same_word (codes "as") w is)) bare))
    (λ other e. either (step (moment said) w) (reads_as (codes "where") w) (condition said) (refused (UnknownWord w.at)) e
    (λ is f. inl (condition said, f, first_condition said bare))
    (λ unknown f. inr (UnknownWord w.at, f, refl)))
one_step seen s w here (as_word first a said e bare) =
    text_step seen (codes "of") (timed (at_moment said)) w (λ is. of_word first a w.at said (longer seen first _ w _ e is) bare)
one_step seen s w here (of_word first a b said e bare) =
    time_step seen first _ (at_moment said) w e refl
    (λ t is f. inl (
      at_moment said t,
      f,
      time_of_day (record said { as_of = Some t })
          (record { symbols = bare.symbols; span = bare.span; kinds = bare.kinds }),
    ))
one_step seen s w here (time_of_day said bare) = link_step seen (codes "where") said w (λ is. first_condition said bare)
one_step seen s w here (first_condition said bare) = condition_step seen said w (λ some again. absurd (some bare))
one_step seen s w here (given said) =
    link_step seen (codes "and") said w (λ is. next_condition seen w.at said (ap (λ v. seen ++ (v ∷ [])) is) here)
one_step seen s w here (next_condition first a said e there) =
    condition_step seen said w
    (λ some again.
    (refl, record { first = first; at_and = a; query = meaning_of said; parted = e; means = means_here first (codes "and") said there; again = again }))
one_step seen s w here (symbol_word said) = text_step seen (codes "in") (symbols_next said) w (λ is. symbols_in said)
one_step seen s w here (symbols_in said) = list_step seen symbols_of (with_symbols said) w (λ names. given (record said { symbols = Some names }))
one_step seen s w here (time_word first a said e) =
    text_step seen (codes "from") (timed (until_next said)) w (λ is. from_word first a w.at said (longer seen first _ w _ e is))
one_step seen s w here (from_word first a b said e) =
    time_step seen first _ (until_next said) w e refl
    (λ t is f. inl (
      until_next said t,
      f,
      since_word first a b w t said (longer seen first _ w w e refl) is
          (subst Begins e (span_begins seen said here)),
    ))
one_step seen s w here (since_word first a b v since said e starts begun) =
    text_step seen (codes "until") (end_next said since) w
    (λ is. until_word first a b w.at v since said (longer seen first _ w _ e is) starts begun)
one_step seen s w here (until_word first a b c v since said e starts begun) =
    time_step seen (first ++ (word a (codes "time") ∷ [])) (word b (codes "from") ∷ v ∷ word c (codes "until") ∷ [])
    (λ until. cond (nat_lt since until) (with_span said since until) (refused EmptyRange)) w (e ∙ sym (append_assoc first (word a (codes "time") ∷ []) _)) refl
    (λ t is f. either (step (end_next said since) w) (nat_lt since t) (with_span said since t) (refused EmptyRange) f
    (λ rises g. inl (with_span said since t, g, given (record said { span = Some (record { since = since; until = t }) })))
    (λ falls g. inr (
      EmptyRange,
      g,
      record {
        first = first;
        at_time = a;
        at_from = b;
        at_until = c;
        start = v;
        since = since;
        until = t;
        parted = e;
        starts = starts;
        ends = is;
        no_later = falls;
      },
    )))
one_step seen s w here (kind_word said) = text_step seen (codes "in") (kinds_next said) w (λ is. kinds_in said)
one_step seen s w here (kinds_in said) = list_step seen kinds_of (with_kinds said) w (λ some. given (record said { kinds = Some some }))

-- a fault of words, and the place where it was found
pub data Found : List Word → QueryFault → Type 0 where
  found : {ws : List Word} {fault : QueryFault} (before after : List Word) (wrong : Word) (n : Next) → ws ≡ before ++ (wrong ∷ after) → lead before ≡ n
      → Place before n → step n wrong ≡ refused fault → Tells before wrong fault → Found ws fault

found_before : (seen : List Word) (w : Word) (fault : QueryFault) → Found seen fault → Found (seen ++ (w ∷ [])) fault
found_before seen w fault (found before after wrong n parted there place fails tells) =
    let more : seen ++ (w ∷ []) ≡ before ++ (wrong ∷ (after ++ (w ∷ []))) =
    ap (λ l. l ++ (w ∷ [])) parted ∙ append_assoc before (wrong ∷ after) (w ∷ []) in
    found before (after ++ (w ∷ [])) wrong n more there place fails tells

-- where words lead: to a place, or to a fault
abbrev Reached : List Word → Type 0
Reached ws = ((n : Next) × (lead ws ≡ n) × Place ws n) ⊎ ((fault : QueryFault) × (lead ws ≡ refused fault) × Found ws fault)

reached_one : (seen : List Word) (w : Word) → Reached seen → Reached (seen ++ (w ∷ []))
unfolding step
reached_one seen w (inl x) =
    elim (one_step seen x.0 w x.1 x.2) [
      | inl y ↦ inl (y.0, one_more seen x.0 y.0 w x.1 y.1, y.2)
      | inr y ↦ inr (y.0, one_more seen x.0 (refused y.0) w x.1 y.1, found seen [] w x.0 refl x.1 x.2 y.1 y.2)
    ]
reached_one seen w (inr x) = inr (x.0, one_more seen (refused x.0) (refused x.0) w x.1 refl, found_before seen w x.0 x.2)

reached_more : (more seen : List Word) → Reached seen → Reached (seen ++ more)
reached_more [] seen r = subst Reached (sym (append-nil seen)) r
reached_more (w ∷ more) seen r =
    subst Reached (append_assoc seen (w ∷ []) more) (reached_more more (seen ++ (w ∷ [])) (reached_one seen w r))

pub reached : (ws : List Word) → Reached ws
reached ws = reached_more ws [] (inl (query, refl, start refl))

-- what holds behind each place, and behind each fault, holds of where words lead
pub behind : (first more : List Word) (P : Next → Type 0) → ((n : Next) → Place first n → P (fold step n more))
    → ((fault : QueryFault) → P (fold step (refused fault) more)) → P (lead (first ++ more))
behind first more P at_place at_fault =
    let there : P (fold step (lead first) more) =
    elim (reached first) [
      | inl x ↦ subst (λ n. P (fold step n more)) (sym x.1) (at_place x.0 x.2)
      | inr x ↦ subst (λ n. P (fold step n more)) (sym x.1) (at_fault x.0)
    ] in
    subst P (sym (fold-append step query first more)) there
