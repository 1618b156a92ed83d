use Rattle.std.proofs.Common.{◌∙◌, [], ap, arith, refl, sym}
use Rattle.std.specs.Arc.{arc_value}
use Rattle.std.proofs.lemmas.List.Elements.{All-nil}
use Rattle.block_scan.proofs.BlocksAndAttempts.{at_item}
use Rattle.block_scan.proofs.chaining.chain.Goals as goal

pub invariant_of-chain : goal.invariant_of-chain
invariant_of-chain g c = (
  c.requires.request,
  omega (arith, c.in_ok-zeros.ensures),
  record {
    runs = [];
    each = All-nil _;
    bytes = All-nil _;
    gave = g.met.S.BlockSource.gave_nothing c.args.source.now 0;
    at_is = refl;
    within = omega arith;
    are = c.empty.ensures;
  },
)

pub go_on-requires : goal.go_on-requires
go_on-requires g c =
    let v = arc_value c.attempt-item.result in
    let (less, at) = at_item refl refl c.loop-attempt-test.true c.attempt-item.is in
    record { attempt = ap (λ w. w.asked) (c.deref.ensures ∙ sym (at v)) ∙ c.requires.attempts _ v less ∙ sym c.loop-attempt.invariant }
