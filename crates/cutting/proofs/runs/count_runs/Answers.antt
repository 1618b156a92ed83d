use Rattle.std.proofs.Common.{◌++◌, ◌∷◌, [], take, drop, refl, length-append, arith}
use Rattle.std.proofs.lemmas.List.{length-take-le}
use Rattle.cutting.proofs.CutsBy.{Begun-all, Begun-more, Begun-none}
use Rattle.cutting.proofs.runs.count_runs.Goals as goal

pub loop-start-init : goal.loop-start-init
loop-start-init c = ([], Begun-none c.args.target c.args.bytes.now, refl, omega arith)

pub loop-start-preserved : goal.loop-start-preserved
loop-start-preserved c =
    let now = c.loop-start.invariant in
    let f = c.in_ok-start.ensures.run in
    let tail = drop c.loop-start.start c.args.bytes.now in
    let run = take c.in_ok-start.field-0 tail in (
      now.0 ++ run ∷ [],
      Begun-more now.1 f,
      omega (arith, length-append now.0 (run ∷ []), now.2),
      omega (arith, now.3, f.run.some, length-take-le c.in_ok-start.field-0 tail f.within),
    )

pub returns-clause-count : goal.returns-clause-count
returns-clause-count c = let now = c.loop-start.invariant in (now.0, Begun-all now.1 c.loop-start-test.false, now.2)
