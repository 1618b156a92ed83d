use Rattle.std.proofs.Common.{◌≡◌, ◌≢◌, Bool, true, false, List, ◌∷◌, Result, Ok, Err, IfErr, is_some, codes, refl, ap, ◌∙◌}
use Rattle.std.proofs.lemmas.Result.{IfErr-weaker, on_ok_weaker}
use Rattle.query.specs.Words.{Word, begins_list, lists_symbols, reads_as}
use Rattle.query.specs.Faults.{IsRefused, Next, OutOfMemory, QueryFault, UnknownWord}
use Rattle.query.specs.Faults.{condition, kind_list, opened, read_from, refused, step, symbol_list, time_span}
use Rattle.query.specs.Grammar.{Said}
use Rattle.query.proofs.WordByWord.{reads, stays, refused_here}
use Rattle.query.proofs.parsing.QueryBuilder.read_condition.Goals as goal

-- what the first word of a condition leads to
module _ (said : Said) (ws rest : List Word) (w : Word) (e : ws ≡ w ∷ rest) where
  leads : (next : Next) → step (condition said) w ≡ next → read_from (condition said) ws ≡ read_from next rest
  leads next is = ap (read_from (condition said)) e ∙ reads (condition said) w rest ∙ ap (λ n. read_from n rest) is

  symbol_leads : (given : Bool) → true ≡ reads_as (codes "symbol") w → given ≡ is_some said.symbols
      → read_from (condition said) ws ≡ read_from (opened w given (symbol_list said)) rest
  unfolding step
  symbol_leads given s g = leads _ (rw (← s, ← g) refl)

  time_leads : (given : Bool) → false ≡ reads_as (codes "symbol") w → true ≡ reads_as (codes "time") w → given ≡ is_some said.span
      → read_from (condition said) ws ≡ read_from (opened w given (time_span said)) rest
  unfolding step
  time_leads given s t g = leads _ (rw (← s, ← t, ← g) refl)

  kind_leads : (given : Bool) → false ≡ reads_as (codes "symbol") w → false ≡ reads_as (codes "time") w → true ≡ reads_as (codes "kind") w
      → given ≡ is_some said.kinds → read_from (condition said) ws ≡ read_from (opened w given (kind_list said)) rest
  unfolding step
  kind_leads given s t k g = leads _ (rw (← s, ← t, ← k, ← g) refl)

  none_leads : false ≡ reads_as (codes "symbol") w → false ≡ reads_as (codes "time") w → false ≡ reads_as (codes "kind") w
      → read_from (condition said) ws ≡ read_from (refused (UnknownWord w.at)) rest
  unfolding step
  none_leads s t k = leads _ (rw (← s, ← t, ← k) refl)

refused_after : (r : Result (Unit {0}) QueryFault) (next then_next : Next) (ws rest : List Word) → read_from next ws ≡ read_from then_next rest
    → (begins_list rest ≡ true → lists_symbols ws ≡ true) → IfErr r (λ fault. fault ≢ OutOfMemory → read_from then_next rest ≡ Err fault)
    → IfErr r (λ fault. fault ≡ OutOfMemory → begins_list rest ≡ true) → IfErr r (IsRefused next ws)
refused_after (Ok done) next then_next ws rest e listed first memory = tt
refused_after (Err fault) next then_next ws rest e listed first memory = record { first = λ o. e ∙ first o; memory = λ is. listed (memory is) }

pub returns-then-is_some-clause-err : goal.returns-then-is_some-clause-err
returns-then-is_some-clause-err g c =
    let e = symbol_leads _ _ _ _ c.in_ok-word.ensures.ok true c.if-is.ensures (c.if-is_some.ensures ∙ ap (λ s. is_some s.symbols) c.self.view_is) in
    refused_here _ _ _ (λ is. absurd (cc)) (e ∙ stays _ _)

pub returns-then-is_some-2-clause-err : goal.returns-then-is_some-2-clause-err
returns-then-is_some-2-clause-err g c =
    refused_here _ _ _ (λ is. absurd (cc)) (time_leads _ _ _ _ c.in_ok-word.ensures.ok true c.if-is.ensures c.if-is-2.ensures
    (c.if-is_some-2.ensures ∙ ap (λ s. is_some s.span) c.self-then-is-2.view_is) ∙ stays _ _)

pub returns-then-is_some-3-clause-err : goal.returns-then-is_some-3-clause-err
returns-then-is_some-3-clause-err g c =
    refused_here _ _ _ (λ is. absurd (cc)) (kind_leads _ _ _ _ c.in_ok-word.ensures.ok true c.if-is.ensures c.if-is-2.ensures c.if-is-3.ensures
    (c.if-is_some-3.ensures ∙ ap (λ s. is_some s.kinds) c.self-then-is-3.view_is) ∙ stays _ _)

pub returns-else-is-3-clause-err : goal.returns-else-is-3-clause-err
returns-else-is-3-clause-err g c =
    refused_here _ _ _ (λ is. absurd (cc)) (none_leads _ _ _ _ c.in_ok-word.ensures.ok c.if-is.ensures c.if-is-2.ensures c.if-is-3.ensures ∙ stays _ _)

pub returns-else-is_some-clause-err : goal.returns-else-is_some-clause-err
returns-else-is_some-clause-err g c =
    refused_after c.read_symbols.result _ _ _ _ (symbol_leads _ _ _ _ c.in_ok-word.ensures.ok false c.if-is.ensures
    (c.if-is_some.ensures ∙ ap (λ s. is_some s.symbols) c.self.view_is)) (λ b. rw (c.in_ok-word.ensures.ok, ← c.if-is.ensures, b) refl)
    c.read_symbols.ensures.err c.read_symbols.ensures.memory

pub returns-else-is_some-2-clause-err : goal.returns-else-is_some-2-clause-err
returns-else-is_some-2-clause-err g c =
    IfErr-weaker c.read_span.result _ _ (λ fault h. refused_here _ _ _ h.0 (time_leads _ _ _ _ c.in_ok-word.ensures.ok false c.if-is.ensures
    c.if-is-2.ensures (c.if-is_some-2.ensures ∙ ap (λ s. is_some s.span) c.self-then-is-2.view_is) ∙ h.1)) c.read_span.ensures.err

pub returns-else-is_some-3-clause-err : goal.returns-else-is_some-3-clause-err
returns-else-is_some-3-clause-err g c =
    IfErr-weaker c.read_kinds.result _ _ (λ fault h. refused_here _ _ _ h.0 (kind_leads _ _ _ _ c.in_ok-word.ensures.ok false c.if-is.ensures
    c.if-is-2.ensures c.if-is-3.ensures (c.if-is_some-3.ensures ∙ ap (λ s. is_some s.kinds) c.self-then-is-3.view_is) ∙ h.1)) c.read_kinds.ensures.err

pub returns-else-is_some-clause-ok : goal.returns-else-is_some-clause-ok
returns-else-is_some-clause-ok g c =
    on_ok_weaker c.read_symbols.result (λ e. symbol_leads _ _ _ _ c.in_ok-word.ensures.ok false c.if-is.ensures
    (c.if-is_some.ensures ∙ ap (λ s. is_some s.symbols) c.self.view_is) ∙ e) c.read_symbols.ensures.ok

pub returns-else-is_some-2-clause-ok : goal.returns-else-is_some-2-clause-ok
returns-else-is_some-2-clause-ok g c =
    on_ok_weaker c.read_span.result (λ e. time_leads _ _ _ _ c.in_ok-word.ensures.ok false c.if-is.ensures c.if-is-2.ensures
    (c.if-is_some-2.ensures ∙ ap (λ s. is_some s.span) c.self-then-is-2.view_is) ∙ e) c.read_span.ensures.ok

pub returns-else-is_some-3-clause-ok : goal.returns-else-is_some-3-clause-ok
returns-else-is_some-3-clause-ok g c =
    on_ok_weaker c.read_kinds.result (λ e. kind_leads _ _ _ _ c.in_ok-word.ensures.ok false c.if-is.ensures c.if-is-2.ensures c.if-is-3.ensures
    (c.if-is_some-3.ensures ∙ ap (λ s. is_some s.kinds) c.self-then-is-3.view_is) ∙ e) c.read_kinds.ensures.ok
