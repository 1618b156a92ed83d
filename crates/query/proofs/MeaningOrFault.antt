-- The words of a query are read without a fault just where the grammar gives them a meaning, and that is what is read.
use Rattle.std.proofs.Common.{◌≡◌, ℕ, zero, suc, ◌*◌, ◌<◌, Bool, true, false, cond, List, [], ◌∷◌, length, Option, Some, None, refl, sym, ap, ◌∙◌, subst}
use Rattle.std.proofs.Common.{◌⊎◌, inl, inr, nat_lt, arith}
use Rattle.std.specs.Prelude.{is_some, Result, Ok, Err, codes}
use Rattle.std.specs.Result.{result_err}
use Rattle.std.proofs.lemmas.Bool.{cases_Bool}
use Rattle.std.proofs.lemmas.Slice.Eq.{bytes_eq-Decides}
use Rattle.query.specs.Words.{Word, word, reads_as}
use Rattle.query.specs.Values.{count_of, unit_of, time_of, symbols_of, kinds_of}
use Rattle.meaning.specs.Meaning.{Meaning, is_width}
use Rattle.query.specs.Grammar.{Said, meaning_of, Conditions, Linked, Moment, Means, symbol, time, kind, done, further, any_moment, up_to, sales, bars}
use Rattle.query.specs.Faults.{IsRefused, Next, QueryFault, OutOfMemory, first_query_fault, opened, read_from, step, text, valued}
use Rattle.query.specs.Faults.{refused, needs, condition, linked, moment, query, width, symbol_list, time_span, kind_list}
use Rattle.query.proofs.WordByWord.{reads, read_end, stays}

-- ---- what the grammar gives a meaning is read

mutual
  unfolding read_from step

  pub conditions_read : {said : Said} {ws : List Word} {q : Meaning} → Conditions said ws q → read_from (condition said) ws ≡ Ok q
  conditions_read (symbol new list rest) = rw (new, list) (linked_read rest)
  conditions_read (time new first second rises rest) = rw (new, first, second, rises) (linked_read rest)
  conditions_read (kind new list rest) = rw (new, list) (linked_read rest)

  pub linked_read : {link : List ℕ} {said : Said} {ws : List Word} {q : Meaning} → Linked link said ws q → read_from (linked link said) ws ≡ Ok q
  linked_read done = refl
  linked_read {link} (further rest) = rw ((bytes_eq-Decides link link).1 refl) (conditions_read rest)

pub moment_read : {said : Said} {ws : List Word} {q : Meaning} → Moment said ws q → read_from (moment said) ws ≡ Ok q
unfolding read_from step
moment_read (any_moment done) = refl
moment_read (any_moment (further rest)) = conditions_read rest
moment_read (up_to last rest) = rw last (linked_read rest)

pub means_read : {ws : List Word} {q : Meaning} → Means ws q → read_from query ws ≡ Ok q
unfolding read_from step
means_read (sales rest) = moment_read rest
means_read (bars count seconds width rest) = rw (count, seconds, width) (moment_read rest)

-- ---- what is read has that meaning

pub same_word : (bytes : List ℕ) (w : Word) → reads_as bytes w ≡ true → w ≡ word w.at bytes
same_word bytes w e = ap (λ b. word w.at b) ((bytes_eq-Decides w.bytes bytes).0 e)

module _ (q : Meaning) where
  -- the words that come next lead to the query
  abbrev Reads : Next → List Word → Type 0
  Reads next ws = read_from next ws ≡ Ok q

  no_fault_reads : (fault : QueryFault) (ws : List Word) → Reads (refused fault) ws → ⊥
  no_fault_reads fault ws e = let failed = stays fault ws in absurd (cc)

  passed : (b : Bool) (next : Next) (fault : QueryFault) (ws : List Word) → Reads (cond b next (refused fault)) ws → (b ≡ true) × Reads next ws
  passed true next fault ws e = (refl, e)
  passed false next fault ws e = absurd (no_fault_reads fault ws e)

  has_value : {A : Type 0} (o : Option A) (fault : QueryFault) (next : A → Next) (ws : List Word) → Reads (valued o fault next) ws
      → (x : A) × (o ≡ Some x) × Reads (next x) ws
  has_value None fault next ws e = absurd (no_fault_reads fault ws e)
  has_value (Some x) fault next ws e = (x, refl, e)

  is_new : {A : Type 0} (o : Option A) (w : Word) (next : Next) (ws : List Word) → Reads (opened w (is_some o) next) ws → (o ≡ None) × Reads next ws
  is_new None w next ws e = (refl, e)
  is_new (Some x) w next ws e = absurd (no_fault_reads _ ws e)

  -- a choice by the word
  either : (bytes : List ℕ) (w : Word) (one other : Next) (ws : List Word) → Reads (cond (reads_as bytes w) one other) ws
      → ((w ≡ word w.at bytes) × Reads one ws) ⊎ Reads other ws
  either bytes w one other ws e =
      elim (cases_Bool (reads_as bytes w)) [ inl is ↦ inl (same_word bytes w is, rw is at e) | inr is ↦ inr (rw is at e) ]

  -- there is one more word
  one_word : (next : Word → Next) (ws : List Word) → Reads (needs next) ws → (w : Word) × (rest : List Word) × (ws ≡ w ∷ rest) × Reads (next w) rest
  unfolding step
  one_word next [] e = absurd (cc (read_end (needs next) [] refl))
  one_word next (w ∷ rest) e = (w, rest, refl, sym (reads (needs next) w rest) ∙ e)

  -- it is this text
  text_word : (bytes : List ℕ) (next : Next) (ws : List Word) → Reads (text bytes next) ws
      → (at : ℕ) × (rest : List Word) × (ws ≡ word at bytes ∷ rest) × Reads next rest
  text_word bytes next ws e =
      let x = one_word _ ws e in
      let same = passed (reads_as bytes x.0) next _ x.1 x.3 in (x.0.at, x.1, x.2 ∙ ap (λ w. w ∷ x.1) (same_word bytes x.0 same.0), same.1)

  -- it stands for a value
  value_word : {A : Type 0} (o : Word → Option A) (fault : Word → QueryFault) (next : Word → A → Next) (ws : List Word)
      → Reads (needs (λ w. valued (o w) (fault w) (next w))) ws
      → (w : Word) × (x : A) × (rest : List Word) × (ws ≡ w ∷ rest) × (o w ≡ Some x) × Reads (next w x) rest
  value_word o fault next ws e =
      let x = one_word _ ws e in
      let v = has_value (o x.0) (fault x.0) (next x.0) x.1 x.3 in (x.0, v.0, x.1, x.2, v.1, v.2)

  mutual
    unfolding step

    conditions_mean : (n : ℕ) (said : Said) (ws : List Word) → length ws < n → Reads (condition said) ws → Conditions said ws q
    conditions_mean zero said ws short e = absurd (omega arith)
    conditions_mean (suc n) said [] short e = absurd (cc (read_end (condition said) [] refl))
    conditions_mean (suc n) said (w ∷ ws) short e =
        elim (either (codes "symbol") w _ _ ws (sym (reads (condition said) w ws) ∙ e)) [
          | inl x ↦
              let new = is_new said.symbols w (symbol_list said) ws x.1 in
              let a = text_word (codes "in") _ ws new.1 in
              let v = value_word (λ w. symbols_of w.bytes) _ _ a.1 a.3 in
              let fewer : length v.2 < n = omega (arith, ap length a.2, ap length v.3) in
              rw (x.0, a.2, v.3) (symbol new.0 v.4 (linked_means n (codes "and") _ v.2 fewer v.5))
          | inr other ↦ elim (either (codes "time") w _ _ ws other) [
            | inl x ↦
                let new = is_new said.span w (time_span said) ws x.1 in
                let a = text_word (codes "from") _ ws new.1 in
                let v = value_word (λ w. time_of w.bytes) _ _ a.1 a.3 in
                let b = text_word (codes "until") _ v.2 v.5 in
                let u = value_word (λ w. time_of w.bytes) _ _ b.1 b.3 in
                let rises = passed (nat_lt v.1 u.1) _ _ u.2 u.5 in
                let fewer : length u.2 < n = omega (arith, ap length a.2, ap length v.3, ap length b.2, ap length u.3) in
                rw (x.0, a.2, v.3, b.2, u.3) (time new.0 v.4 u.4 rises.0 (linked_means n (codes "and") _ u.2 fewer rises.1))
            | inr last ↦
                let x = passed (reads_as (codes "kind") w) _ _ ws last in
                let new = is_new said.kinds w (kind_list said) ws x.1 in
                let a = text_word (codes "in") _ ws new.1 in
                let v = value_word (λ w. kinds_of w.bytes) _ _ a.1 a.3 in
                let fewer : length v.2 < n = omega (arith, ap length a.2, ap length v.3) in
                rw (same_word (codes "kind") w x.0, a.2, v.3) (kind new.0 v.4 (linked_means n (codes "and") _ v.2 fewer v.5))
          ]
        ]

    linked_means : (n : ℕ) (link : List ℕ) (said : Said) (ws : List Word) → length ws < n → Reads (linked link said) ws → Linked link said ws q
    linked_means n link said [] short e =
        let same : meaning_of said ≡ q = cc (read_end (linked link said) [] refl) in subst (λ m. Linked link said [] m) same done
    linked_means zero link said (w ∷ ws) short e = absurd (omega arith)
    linked_means (suc n) link said (w ∷ ws) short e =
        let x = passed (reads_as link w) (condition said) _ ws (sym (reads (linked link said) w ws) ∙ e) in
        rw (same_word link w x.0) (further (conditions_mean n said ws (omega arith) x.1))

  moment_means : (said : Said) (ws : List Word) → Reads (moment said) ws → Moment said ws q
  unfolding step
  moment_means said [] e =
      let same : meaning_of said ≡ q = cc (read_end (moment said) [] refl) in subst (λ m. Moment said [] m) same (any_moment done)
  moment_means said (w ∷ ws) e =
      elim (either (codes "as") w _ _ ws (sym (reads (moment said) w ws) ∙ e)) [
        | inl x ↦
            let a = text_word (codes "of") _ ws x.1 in
            let v = value_word (λ w. time_of w.bytes) _ _ a.1 a.3 in
            rw (x.0, a.2, v.3) (up_to v.4 (linked_means (suc (length v.2)) (codes "where") _ v.2 (omega arith) v.5))
        | inr other ↦
            let x = passed (reads_as (codes "where") w) (condition said) _ ws other in
            rw (same_word (codes "where") w x.0) (any_moment (further (conditions_mean (suc (length ws)) said ws (omega arith) x.1)))
      ]

  -- what is read to the end has that meaning
  pub means_from_read : (ws : List Word) → Reads query ws → Means ws q
  means_from_read ws e =
      let x = one_word _ ws e in
      elim (either (codes "sales") x.0 _ _ x.1 x.3) [
        | inl s ↦ rw (x.2, s.0) (sales (moment_means _ x.1 s.1))
        | inr other ↦
            let b = passed (reads_as (codes "bars") x.0) width _ x.1 other in
            let n = value_word (λ w. count_of w.bytes) _ _ x.1 b.1 in
            let u = value_word (λ w. unit_of w.bytes) _ _ n.2 n.5 in
            let fits = passed (is_width (n.1 * u.1)) _ _ u.2 u.5 in
            rw (x.2, same_word (codes "bars") x.0 b.0, n.3, u.3) (bars n.4 u.4 fits.0 (moment_means _ u.2 fits.1))
      ]

-- ---- the laws

-- what is read to a fault has that first fault
pub fault_from_read : (ws : List Word) (fault : QueryFault) → read_from query ws ≡ Err fault → first_query_fault ws ≡ Some fault
fault_from_read ws fault e = ap result_err e

-- what is read is what the words mean
pub read_is_meant : (ws : List Word) (q p : Meaning) → read_from query ws ≡ Ok q → Means ws p → q ≡ p
read_is_meant ws q p e m = let read = means_read m in cc

-- a text has one meaning
pub one_meaning : (ws : List Word) (q p : Meaning) → Means ws q → Means ws p → q ≡ p
one_meaning ws q p m n = read_is_meant ws q p (means_read m) n

-- a text with a meaning has no fault
pub no_fault : (ws : List Word) (q : Meaning) → Means ws q → first_query_fault ws ≡ None
no_fault ws q m = ap result_err (means_read m)

-- a text without a fault has a meaning
pub some_meaning : (ws : List Word) → first_query_fault ws ≡ None → (q : Meaning) × Means ws q
some_meaning ws none =
    let go : (r : Result Meaning QueryFault) → read_from query ws ≡ r → result_err r ≡ None → (q : Meaning) × Means ws q =
    elim [
      | Ok q ↦ λ e f. (q, means_from_read q ws e)
      | Err fault ↦ λ e f. absurd (cc)
    ] in
    go (read_from query ws) refl none

-- words that have a meaning have no fault, and are refused for want of memory alone
pub never_refused : (ws : List Word) (q : Meaning) (fault : QueryFault) → Means ws q → read_from query ws ≡ Err fault → fault ≡ OutOfMemory
never_refused ws q fault m e = let read = means_read m in absurd (cc)

pub only_memory : (ws : List Word) (q : Meaning) (fault : QueryFault) → Means ws q → IsRefused query ws fault → fault ≡ OutOfMemory
only_memory ws q OutOfMemory m h = refl
only_memory ws q fault m h = never_refused ws q fault m (h.first (λ e. cc))

pub ruleset told = (means_from_read, fault_from_read, read_is_meant, only_memory, never_refused)
