use Rattle.std.proofs.Common.{ap, arith}
use Rattle.cutting.specs.Feeding.{fed_length}
use Rattle.std.proofs.lemmas.Result.{IfOk-weaker}
use Rattle.cutting.proofs.Fed.{Cutting-grown, HasFed-more}
use Rattle.cutting.proofs.cutter.Cutter.feed.Goals as goal

pub invariant_of-self : goal.invariant_of-self
invariant_of-self g c =
    Cutting-grown _ c.read_from.result c.read_from.new.self c.args.left c.self.invariant c.read_from.ensures.piece c.read_from.ensures.within
    c.read_from.ensures.same (omega (arith, c.requires.left, c.in_ok-cut_off.ensures.length, ap fed_length c.self.view_is))

pub returns-clause-fed : goal.returns-clause-fed
returns-clause-fed g c =
    IfOk-weaker c.read_from.result _ _ (λ count (piece, gave, is, size). (
      piece,
      size,
      gave,
      λ fed has. rw is (HasFed-more _ fed piece (rw (← c.self.view_is) at (c.in_ok-cut_off.ensures.fed fed has))),
    )) c.read_from.ensures.piece
