use Rattle.std.proofs.Common.{sym, ◌∙◌, arith}
use Rattle.std.proofs.lemmas.List.{take_rest}
use Rattle.std.proofs.lemmas.Result.{err_from_is_err_and}
use Rattle.day_file.specs.Placed.{placed_body}
use Rattle.cutting.proofs.FirstRuns.{Reached-more, Reached-start, place_below, run_here, run_of_rest}
use Rattle.cutting.proofs.runs.first_run.Goals as goal

pub loop-frame-init : goal.loop-frame-init
loop-frame-init c =
    let of = rw (take_rest c.args.bytes.now c.args.whole) at c.of-left.ensures in
    Reached-start c.args.target c.args.whole c.args.bytes.now _ (omega (arith, c.requires.some)) c.requires.target c.requires.front of.whole of.truncated of.end

pub overflow_add-end-in-Some : goal.overflow_add-end-in-Some
overflow_add-end-in-Some c = grind (arith, Reached-more, c.in-Some.ensures.steps, c.loop-frame.invariant, c.requires.limit)

pub returns-then-end-target-clause-run : goal.returns-then-end-target-clause-run
returns-then-end-target-clause-run c =
    let steps = c.in-Some.ensures.steps in run_here (placed_body c.in-Some.frame) c.loop-frame.invariant steps.0 steps.1 c.if-end-target.true

pub loop-frame-preserved : goal.loop-frame-preserved
loop-frame-preserved c =
    let steps = c.in-Some.ensures.steps in
    Reached-more c.args.target (placed_body c.in-Some.frame) c.loop-frame.invariant steps.0 steps.1 c.if-end-target.false

pub returns-in_err-finish-clause-below : goal.returns-in_err-finish-clause-below
returns-in_err-finish-clause-below c =
    let steps = c.in_default.ensures.steps in
    let p = err_from_is_err_and c.from_residual.result c.from_residual.ensures.1 in
    rw (p.1, p.2) (place_below c.loop-frame.invariant steps.0.0 (sym steps.1 ∙ c.in_err-finish.ensures))

pub returns-clause-run : goal.returns-clause-run
returns-clause-run c =
    let steps = c.in_default.ensures.steps in
    run_of_rest c.loop-frame.invariant steps.0.0 (omega (arith, c.requires.some)) (sym steps.1 ∙ c.in_ok-finish.ensures)
