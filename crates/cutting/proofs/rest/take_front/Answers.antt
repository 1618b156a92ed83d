use Rattle.std.proofs.Common.{◌≡◌, ℕ, ◌+◌, ◌-◌, ◌≤◌, List, [], ◌∷◌, ◌++◌, length, take, drop, arith, ap, sym, ◌∙◌}
use Rattle.std.proofs.lemmas.List.{length-take-le, take-append-drop, take-take}
use Rattle.cutting.proofs.rest.take_front.Goals as goal

-- the run is put back before what was left behind it
put_back : (count end : ℕ) (old run new left : List ℕ) → end ≤ count → count ≤ length old → run ≡ take end old → left ≡ drop end (take count old)
    → take (length run + (count - end)) new ≡ run ++ left → take count new ≡ take count old
put_back count end old run new left within fits run_is left_is joined =
    let long : length run + (count - end) ≡ count = omega (arith, ap length run_is, length-take-le end old (omega (arith, within, fits)), within) in
    let front : run ≡ take end (take count old) = run_is ∙ sym (take-take end count old within) in
    ap (λ n. take n new) (sym long) ∙ joined ∙ ap (λ l. l ++ left) front ∙ ap (λ l. take end (take count old) ++ l) left_is
    ∙ take-append-drop end (take count old)

pub returns-in-Err-clause-same : goal.returns-in-Err-clause-same
returns-in-Err-clause-same c = (
  c.in-Err.ensures.err,
  put_back c.args.count c.args.end c.args.bytes.now.items c.deref.result.now c.join.new.bytes.items _ c.requires.within.0
      (omega (arith, c.requires.within, c.args.bytes.now.ok.0))
      (c.deref.ensures.value ∙ c.in-Err.ensures.returned ∙ c.split-run.ensures.run) c.split-run.ensures.left c.join.ensures.joined,
)

pub returns-clause-cut : goal.returns-clause-cut
returns-clause-cut c = c.in_default.ensures.ok ∙ ap (λ l. c.args.cut.now ++ l ∷ []) c.split-run.ensures.run
