use Rattle.std.proofs.Common.{◌≡◌, List, ℕ, ◌+◌, ◌-◌, ap, ◌∙◌, length, length-append, length-drop, take, drop, arith}
use Rattle.std.proofs.lemmas.List.{drop-drop}
use Rattle.cutting.proofs.CutsBy.{Begun-all, Begun-more, peeled}
use Rattle.cutting.proofs.cutting.make_cut.Goals as goal

size : (start n : ℕ) → (start + n) - start ≡ n
size start n = omega arith

pub append-requires : goal.append-requires
append-requires c = let now = c.loop-start.invariant in let f = c.in_ok-length.ensures.run in
    let next = peeled c.args.target _ now.1 _ f now.2 in let n = size c.loop-start.start c.in_ok-length.length in record {
      run = rw (c.in_ok-run.ensures.items, n) f.run;
      room = omega (arith, ap length next.1, now.3);
      within = omega (arith, c.in_ok-run.ensures.len, f.within, length-drop c.loop-start.start c.args.bytes.now, now.0.made, now.0.within);
    }

pub loop-start-preserved : goal.loop-start-preserved
loop-start-preserved c =
    let now = c.loop-start.invariant in
    let f = c.in_ok-length.ensures.run in
    let next = peeled c.args.target _ now.1 _ f now.2 in
    let run = c.in_ok-run.ensures.items ∙ ap (λ k. take k (drop c.loop-start.start c.args.bytes.now)) (size c.loop-start.start c.in_ok-length.length) in
    rw (c.in-Ok.ensures.ok, run)
    (Begun-more now.0 f, next.0, (rw drop-drop at next.2), omega (arith, ap length next.1, length-append {A = List ℕ}, now.3))

pub returns-clause-cut : goal.returns-clause-cut
returns-clause-cut c = Begun-all c.loop-start.invariant.0 c.loop-start-test.false
