use Rattle.std.proofs.Common.{inl, inr, arith}
use Rattle.cutting.proofs.Fed.{fed_truncated, few_runs, too_many_runs}
use Rattle.cutting.proofs.cutter.Cutter.count_all.Goals as goal
use Rattle.cutting.proofs.cutter.Cutter.count_all.Goals.{then-self-gt0-via-then-self-gt0, then-self-gt0-via-else-self-gt0+then-from-more}

pub returns-in-Err-clause-fault : goal.returns-in-Err-clause-fault
returns-in-Err-clause-fault c =
    rw (← c.self.view_is) (λ fed has. rw c.length.ensures.same
    (fed_truncated _ fed has c.in-Err.fault.place (rw c.as_slice.ensures at c.in-Err.ensures.truncated)))

pub returns-then-self-gt0-clause-fault : goal.returns-then-self-gt0-clause-fault
returns-then-self-gt0-clause-fault c =
    let runs = c.in-Ok.ensures.count in
    rw (← c.self.view_is) (λ fed has. too_many_runs _ fed has runs.0 (rw c.as_slice.ensures at runs.1) (elim c.then-self-gt0.branch [
      | then-self-gt0-via-then-self-gt0 w ↦ inl w.if-self-gt0.true
      | then-self-gt0-via-else-self-gt0+then-from-more w ↦
          inr (omega (arith, runs.2, w.from.ensures, w.into.ensures, w.count.ensures.count, w.if-from-more.true))
    ]))

pub returns-clause-few : goal.returns-clause-few
returns-clause-few c =
    let runs = c.in-Ok.ensures.count in
    rw (← c.self.view_is) (λ fed has. few_runs _ fed has runs.0 (rw c.as_slice.ensures at runs.1) (omega (arith, c.if-self-gt0.false))
    (omega (arith, runs.2, c.from.ensures, c.into.ensures, c.count.ensures.count, c.if-from-more.false)))
