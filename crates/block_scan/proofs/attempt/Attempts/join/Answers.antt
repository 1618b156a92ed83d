use Rattle.std.proofs.Common.{◌≡◌, ◌∙◌, IfErr, IfOk, ap, sym, subst}
use Rattle.block_scan.specs.Blocks.{IsBlocksFault}
use Rattle.block_scan.specs.Pieces.{Asked, IsScannedWhole}
use Rattle.block_scan.proofs.BlocksAndAttempts.{first_of}
use Rattle.block_scan.proofs.attempt.Attempts.join.Goals as goal

pub chain-requires-clause-attempts : goal.chain-requires-clause-attempts
chain-requires-clause-attempts g c =
    let (asked, are) = c.requires in
    let of = ap (λ s. record { source = s; request = c.first.inside.request }) c.deref.ensures ∙ ap (λ v. v.asked) (c.first.view_is ∙ c.deref-first.ensures) in
    let first = first_of c.self.inside.items.items c.index.ensures of (rw c.self.view_is are) in
    rw (c.as_slice.ensures.value, c.self.view_is) (λ k d less. are.each k d less ∙ sym first)

pub returns-clause-scanned : goal.returns-clause-scanned
returns-clause-scanned g c asked are =
    let of = ap (λ s. record { source = s; request = c.first.inside.request }) c.deref.ensures ∙ ap (λ v. v.asked) (c.first.view_is ∙ c.deref-first.ensures) in
    let S = g.S.BlockSource in
    subst (λ (a : Asked _). IfOk c.chain.result (IsScannedWhole S a.source a.request))
    (first_of c.self.inside.items.items c.index.ensures of (rw c.self.view_is are)) c.chain.ensures.scanned

pub returns-clause-fault : goal.returns-clause-fault
returns-clause-fault g c asked are =
    let of = ap (λ s. record { source = s; request = c.first.inside.request }) c.deref.ensures ∙ ap (λ v. v.asked) (c.first.view_is ∙ c.deref-first.ensures) in
    let S = g.S.BlockSource in
    let same : record { source = c.deref.result.now; request = c.first.inside.request } ≡ asked = first_of c.self.inside.items.items c.index.ensures of
    (rw c.self.view_is are) in
    subst (λ a. IfErr c.chain.result (IsBlocksFault S a.source a.request.limit)) same c.chain.ensures.fault

pub returns-in-Some-clause-first : goal.returns-in-Some-clause-first
returns-in-Some-clause-first g c fault is = cc (c.in-Some.ensures.first)

pub returns-clause-first : goal.returns-clause-first
returns-clause-first g c fault is = absurd (cc (c.in_default.is, c.first_fault.ensures.first))
