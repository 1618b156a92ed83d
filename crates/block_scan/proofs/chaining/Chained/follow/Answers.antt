use Rattle.std.proofs.Common.{◌≡◌, arith, refl, subst, sym}
use Rattle.block_scan.specs.Pieces.{IsPiece}
use Rattle.block_scan.proofs.Chained.{chain_cut, chain_more}
use Rattle.block_scan.proofs.chaining.Chained.follow.Goals as goal

pub returns-in-Cut-clause-gone_on : goal.returns-in-Cut-clause-gone_on
returns-in-Cut-clause-gone_on g c =
    let S = g.S.BlockSource in
    let met = g.met.S.BlockSource in
    let (is, begins) = subst (λ v. IsPiece S v.asked.source v.asked.request c.args.piece.now × (c.args.piece.now.start ≡ v.at))
    (sym c.self.view_is)
    (c.requires.piece, c.requires.begins) in
    rw (← c.self.view_is)
    (record { asked = refl; ended = tt; fault = chain_cut S met.gave_more met.gave_front c.self.invariant.2 is begins c.in-Cut.is })

pub invariant_of-self-then-has_frames : goal.invariant_of-self-then-has_frames
invariant_of-self-then-has_frames g c =
    let S = g.S.BlockSource in
    let met = g.met.S.BlockSource in
    let (is, begins) = subst (λ v. IsPiece S v.asked.source v.asked.request c.args.piece.now × (c.args.piece.now.start ≡ v.at))
    (sym c.self.view_is)
    (c.requires.piece, c.requires.begins) in (
      c.self.invariant.0,
      c.self.invariant.1,
      rw c.in_ok-add.ensures.ok (chain_more S met.gave_more met.gave_front c.self.invariant.2 is begins
          (omega (arith, c.if-has_frames.true, begins))),
    )
