use Rattle.std.proofs.Common.{[], ◌%◌, ◌∙◌, ap, arith}
use Rattle.std.proofs.lemmas.Grind.{common_steps}
use Rattle.morsel_rows.proofs.JoinedInPartitions.{execution_joins}
use Rattle.morsel_rows.proofs.TakenRows.{not_none, pushed}
use Rattle.morsel_rows.proofs.rows.MorselRows.push_execution.Goals as goal
use Rattle.morsel_rows.proofs.rows.MorselRows.push_execution.Goals.{in-Some, in-None}

pub returns : goal.returns
returns g c = elim c.match-index_mut.branch [
  | in-Some w ↦
      let both = pushed _ _ _ c.begin.ensures.same _ _ _ c.in_ok-begin.ensures.begun _ c.index_mut.ensures.value _ c.self.view_is _ _ _
      (execution_joins c.args.row) c.self.invariant.0 (c.remainder-number.ensures ∙ ap (λ n. c.args.row.order_no % n) c.self.invariant.2) _ w.in-Some.is _ _ w.deref_mut.ensures.value _
      w.push_execution.ensures.added w.push_execution.ensures.unchanged in
      rw (w.self-inside-is, w.result-is) (record { added = both.0; unchanged = both.1 })
  | in-None w ↦ absurd (not_none 0 _ _ c.begin.ensures.same [] [] _ c.in_ok-begin.ensures.begun _ c.index_mut.ensures.value w.in-None.is)
]

pub returns-in_err-begin-clause-unchanged : goal.returns-in_err-begin-clause-unchanged
returns-in_err-begin-clause-unchanged g c = grind arith

pub index_mut-requires : goal.index_mut-requires
index_mut-requires g c = grind (arith, common_steps)
