use Rattle.std.proofs.Common.{refl, sym, ap₂, ap, ◌∙◌, arith, length}
use Rattle.std.proofs.lemmas.Bool.{both_ways}
use Rattle.time_and_sales.specs.Names.{last_of_two, last_row}
use Rattle.time_and_sales.proofs.LastRows.{row_at, rows_of, with_one_more, all_read, last_row_is, no_entries, rows_joined}
use Rattle.time_and_sales.proofs.names.Names.unite.Goals as goal

pub returns-clause-kept : goal.returns-clause-kept
returns-clause-kept g c = λ locate.
    let both = rw c.in-None.ensures.steps.0 at (c.loop-locate.invariant.both locate) in
    rw (← c.in_ok-try_reserve.ensures.entries.2 locate, ← last_row_is c.args.other.now.rows.entries locate c.len.ensures.unique)
    (all_read _ _ _ locate both)

pub returns-clause-joined : goal.returns-clause-joined
returns-clause-joined g c = λ xs ys p q locate.
    returns-clause-kept g c locate ∙ ap₂ last_of_two (p locate) (q locate) ∙ sym (rows_joined xs ys locate)

pub returns-in_err-try_reserve-clause-none : goal.returns-in_err-try_reserve-clause-none
returns-in_err-try_reserve-clause-none g c = λ h.
    absurd (both_ways _ refl (c.in_err-try_reserve.ensures.succeeds (omega (arith, c.len.ensures.len, no_entries c.args.other.now.rows.entries h))))

pub loop-locate-preserved : goal.loop-locate-preserved
loop-locate-preserved g c = record {
  both = λ locate.
      let row = row_at c.in-Some.locate.now c.in-Some.listed.now in
      let both = rw c.in-Some.ensures.steps at (c.loop-locate.invariant.both locate) in
      rw (c.in_ok-keep_later.ensures.kept locate, with_one_more (last_row c.loop-locate.self locate) row (rows_of c.next.new.self) locate) both;
  room = omega (arith, ap length c.in-Some.ensures.steps);
}

-- there is room for each row
refuted : (g : _) → goal.After-from_residual-in_err-keep_later g → ⊥
refuted g c = cc (c.in_err-keep_later.ensures.succeeds (omega (arith, ap length c.in-Some.ensures.steps)))

pub returns-in_err-keep_later-clause-unchanged : goal.returns-in_err-keep_later-clause-unchanged
returns-in_err-keep_later-clause-unchanged g c = absurd (refuted g c)

pub returns-in_err-keep_later-clause-none : goal.returns-in_err-keep_later-clause-none
returns-in_err-keep_later-clause-none g c = λ h. absurd (refuted g c)

pub loop-locate-init : goal.loop-locate-init
loop-locate-init g c = record {
  both = λ locate. rw c.into_iter-locate-iterator.ensures.into_iter_gives.0 refl;
  room = omega (arith, ap length c.into_iter-locate-iterator.ensures.into_iter_gives.0, c.in_ok-try_reserve.ensures.ok, c.len.ensures.len);
}
