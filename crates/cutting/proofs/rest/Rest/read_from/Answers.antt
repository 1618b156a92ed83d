use Rattle.std.proofs.Common.{◌≡◌, ℕ, ◌+◌, ◌≤◌, List, ◌++◌, length, take, drop, take_at, arith, ap, sym, ◌∙◌, append_assoc, Result, Ok, Err, OnErr}
use Rattle.std.proofs.Math.Seq.{take-append-add}
use Rattle.std.proofs.lemmas.List.{drop-append-le, length-take-le, take-append-le, take-take}
use Rattle.sources.proofs.Given.{more_given}
use Rattle.cutting.proofs.rest.Rest.read_from.Goals as goal

pub returns-then-taken-left-clause-fault : goal.returns-then-taken-left-clause-fault
returns-then-taken-left-clause-fault g c = λ before bytes limit so_far long. (
  more_given g.S.Source g.met.S.Source.gave_more so_far c.in_ok-taken.ensures.gave (omega (
    arith,
    long,
    length-take-le c.in_ok-taken.taken c.take.new.into c.in_ok-taken.ensures.count,
    c.in_ok-taken.ensures.count,
    c.take.auto.into,
    c.min-most.ensures,
    c.if-taken-left.true,
  )),
  c.in_ok-taken.ensures.failed,
)

-- a vector was made longer, and others were written behind its first `end` bytes
read_behind : (old longer into post tail : List ℕ) (start end n total : ℕ) → take (length old) longer ≡ old → start ≤ end → end ≤ length old → n ≤ length into
    → end + n ≤ total → drop start (take (end + n) (take total ((take end longer ++ (into ++ post)) ++ tail))) ≡ drop start (take end old) ++ take n into
read_behind old longer into post tail start end n total begins before within some fits =
    let front = take end longer in
    let behind = into ++ (post ++ tail) in
    let same : front ≡ take end old = sym (take-take end (length old) longer within) ∙ ap (take end) begins in
    let size : length front ≡ end = ap length same ∙ length-take-le end old within in
    let joined : (front ++ (into ++ post)) ++ tail ≡ front ++ behind = append_assoc front (into ++ post) tail ∙ ap (λ l. front ++ l) (append_assoc into post tail) in
    ap (drop start) (take-take (end + n) total _ fits ∙ ap (take (end + n)) joined ∙ ap (λ k. take (k + n) (front ++ behind)) (sym size) ∙ take-append-add front behind n)
    ∙ drop-append-le start front (take n behind) (omega (arith, before, size)) ∙ ap (λ l. drop start l ++ take n behind) same
    ∙ ap (λ l. drop start (take end old) ++ l) (take-append-le n into (post ++ tail) some)

pub returns-clause-piece : goal.returns-clause-piece
returns-clause-piece g c =
    let taken = c.in_ok-taken.taken in
    let into = c.take.new.into in
    let count = c.in_ok-taken.ensures.count in (
      take taken into,
      c.in_ok-taken.ensures.gave,
      read_behind c.self.inside.bytes.items c.deref_mut.result.now into _ _ c.self.inside.start c.self.inside.end taken _
          (rw c.deref_mut.ensures.value c.lengthen.ensures.front) (omega (arith, c.self.invariant)) (omega (arith, c.self.invariant, c.self.inside.bytes.ok.0))
          count (omega (arith, c.take.auto.into, count, c.in_ok-lengthen.ensures.long))
          ∙ ap (λ l. l ++ take taken into) (c.self.view_is ∙ c.to_front.ensures),
      length-take-le taken into count,
    )

-- ---- what is left of the bytes after a refusal

-- the vector was made longer
longer_kept : (old longer : List ℕ) (start end : ℕ) → take (length old) longer ≡ old → end ≤ length old
    → drop start (take end longer) ≡ drop start (take end old)
longer_kept old longer start end begins within =
    ap (drop start) (sym (take-take end (length old) longer within) ∙ ap (take end) begins)

-- and others were written behind the first `end` bytes
written_kept : (old longer into post tail : List ℕ) (start end total : ℕ) → take (length old) longer ≡ old → end ≤ length old → end ≤ total
    → drop start (take end (take total ((take end longer ++ (into ++ post)) ++ tail))) ≡ drop start (take end old)
written_kept old longer into post tail start end total begins within fits =
    let front = take end longer in
    let same : front ≡ take end old = sym (take-take end (length old) longer within) ∙ ap (take end) begins in
    ap (drop start) (take-take end total _ fits ∙ ap (take end) (append_assoc front (into ++ post) tail)
    ∙ take_at front ((into ++ post) ++ tail) end (ap length same ∙ length-take-le end old within) ∙ same)

on_err : {T E : Type 0} (r : Result T E) (P : Type 0) → P → OnErr r P
on_err (Ok x) P p = tt
on_err (Err y) P p = p

pub returns-in_err-lengthen-clause-same : goal.returns-in_err-lengthen-clause-same
returns-in_err-lengthen-clause-same g c =
    let s = c.self.inside in
    on_err c.from_residual.result _ (longer_kept s.bytes.items c.lengthen.new.bytes.items s.start s.end c.lengthen.ensures.front
    (omega (arith, c.self.invariant, s.bytes.ok.0)) ∙ (c.self.view_is ∙ c.to_front.ensures))

pub returns-in_err-taken-clause-same : goal.returns-in_err-taken-clause-same
returns-in_err-taken-clause-same g c =
    let s = c.self.inside in
    on_err c.from_residual-in_err-taken.result _ (written_kept s.bytes.items c.deref_mut.result.now c.take.new.into _ _ s.start s.end _
    (rw c.deref_mut.ensures.value c.lengthen.ensures.front) (omega (arith, c.self.invariant, s.bytes.ok.0))
    (omega (arith, c.in_ok-lengthen.ensures.long)) ∙ (c.self.view_is ∙ c.to_front.ensures))

pub returns-then-taken-left-clause-same : goal.returns-then-taken-left-clause-same
returns-then-taken-left-clause-same g c =
    let s = c.self.inside in
    written_kept s.bytes.items c.deref_mut.result.now c.take.new.into _ _ s.start s.end _ (rw c.deref_mut.ensures.value c.lengthen.ensures.front)
    (omega (arith, c.self.invariant, s.bytes.ok.0)) (omega (arith, c.in_ok-lengthen.ensures.long)) ∙ (c.self.view_is ∙ c.to_front.ensures)
