use Rattle.std.proofs.Common.{sym, ap, ◌∙◌, subst, arith, length}
use Rattle.streaming.specs.Batches.{HasRead}
use Rattle.streaming.proofs.JoinedBatches.{batch_taken}
use Rattle.streaming.proofs.batches.BatchReader.take_batch.Goals as goal

pub invariant_of-self-2 : goal.invariant_of-self-2
invariant_of-self-2 c =
    let inv = c.self.invariant in
    let left = c.in_ok-cut.ensures.fed inv.fed inv.has in record {
      fed = left.0;
      has = left.2;
      same = c.in_ok-cut.ensures.target ∙ inv.same;
      target_is = inv.target_is;
      within = omega (arith, inv.within, c.in_ok-cut.ensures.length, c.length-2.ensures.same);
      limit_is = inv.limit_is;
      few = omega (
        arith,
        c.if-self-count-gt-MOST_MORSELS.false,
        c.count.ensures.count,
        c.count-2.ensures.count,
        ap length c.in_ok-cut.ensures.taken,
        ap length c.cut_so_far-so_far.ensures,
      );
    }

pub returns-clause-taken : goal.returns-clause-taken
returns-clause-taken c = λ runs bytes has.
    let s = c.self.inside in
    rw (c.count-2.ensures.count, c.length-2.ensures.same) (batch_taken c.in_ok-cut.cut
    (rw c.self.invariant.same at c.in_ok-cut.ensures.full) c.in_ok-cut.ensures.fed (subst (λ v. HasRead v runs bytes) (sym c.self.view_is) has))
