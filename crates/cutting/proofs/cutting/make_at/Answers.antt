use Rattle.std.proofs.Common.{ℕ, length-append, ◌+◌, ◌∷◌, [], slice_index, drop, length, refl, ap, ◌∙◌, arith}
use Rattle.std.proofs.lemmas.List.{drop_more, take_rest}
use Rattle.std.proofs.Math.ListN.{drop_of_length-le}
use Rattle.day_file.specs.Cuts.{rest_run}
use Rattle.cutting.proofs.CutsAt.{AreLeft, IsCutAt-runs, MadeAt-more, concat_rest, left_at, runs_at}
use Rattle.cutting.proofs.LeftFrames.{IsWhole-rest}
use Rattle.cutting.proofs.cutting.make_at.Goals as goal

further : (c : goal.In_ok-from_slice) → let at = c.loop-end in let ends = c.args.ends.now in
    AreLeft at.cut (runs_at at.start c.args.bytes.now (slice_index ends at.end-index ∷ drop (at.end-index + 1) ends)) ends c.args.bytes.now
further c = rw (drop_more c.args.ends.now c.loop-end.end-index 0 c.loop-end-test.true) at (left_at c.requires.whole c.requires.ends c.loop-end.invariant)

pub append-requires-clause-run : goal.append-requires-clause-run
append-requires-clause-run c = rw c.in_ok-from_slice.ensures.items ((further c).each 0 [] (omega arith))

pub append-requires-clause-room : goal.append-requires-clause-room
append-requires-clause-room c = omega (arith, (further c).room, c.requires.few)

pub append-requires-clause-within : goal.append-requires-clause-within
append-requires-clause-within c =
    let items = ap length c.in_ok-from_slice.ensures.items in
    omega (arith, length-append {A = ℕ}, (further c).fits, c.requires.limit, items, c.in_ok-from_slice.field-0.ok.0)

pub loop-end-preserved : goal.loop-end-preserved
loop-end-preserved c =
    let made = rw (drop_more c.args.ends.now c.loop-end.end-index 0 c.loop-end-test.true) at c.loop-end.invariant in
    rw c.in_ok-append.ensures.ok (MadeAt-more c.in_ok-from_slice.field-0.items made c.in_ok-from_slice.ensures.items)

rest : (c : goal.In_ok-from_slice-2) → AreLeft c.loop-end.cut (rest_run (drop c.loop-end.start c.args.bytes.now)) c.args.ends.now c.args.bytes.now
rest c = rw (drop_of_length-le c.args.ends.now c.loop-end-test.false) at (left_at c.requires.whole c.requires.ends c.loop-end.invariant)

pub append_rest-requires-clause-whole : goal.append_rest-requires-clause-whole
append_rest-requires-clause-whole c =
    let bytes = c.args.bytes.now in
    rw (c.in_ok-from_slice-2.ensures.items, take_rest bytes c.loop-end.start)
    (IsWhole-rest c.loop-end.start bytes c.requires.whole c.loop-end.invariant.whole)

pub append_rest-requires-clause-room : goal.append_rest-requires-clause-room
append_rest-requires-clause-room c = grind (arith, take_rest, rest, c.in_ok-from_slice-2.ensures.items, c.requires.few)

pub append_rest-requires-clause-within : goal.append_rest-requires-clause-within
append_rest-requires-clause-within c =
    let items = c.in_ok-from_slice-2.ensures.items ∙ take_rest c.args.bytes.now c.loop-end.start in
    let all = concat_rest (drop c.loop-end.start c.args.bytes.now) in
    omega (arith, (rest c).fits, c.requires.limit, ap length items, ap length all, c.in_ok-from_slice-2.field-0.ok.0)

pub returns : goal.returns
returns c =
    let bytes = c.args.bytes.now in
    let items = c.in_ok-from_slice-2.ensures.items ∙ take_rest bytes c.loop-end.start in
    let last = rw (drop_of_length-le c.args.ends.now c.loop-end-test.false) at c.loop-end.invariant in
    rw (c.in_ok-append_rest.ensures.ok, items, last.split) (IsCutAt-runs bytes bytes c.args.ends.now refl c.requires.whole c.requires.ends)
