use Rattle.std.proofs.Common.{◌≡◌, ℕ, ◌+◌, List, [], ◌∷◌, ◌++◌, Some, take, drop, length, slice_get, take-append-drop, ap, subst, sym, ◌∙◌, arith}
use Rattle.std.proofs.lemmas.List.{length-map, take_all, take_more}
use Rattle.std.specs.Arc.{arc_value}
use Rattle.std.proofs.lemmas.Option.{get_or_from_slice_get, slice_get_within}
use Rattle.pipelines.proofs.alone.total_of.Goals as goal

-- the inputs up to the next one
one_more : {X : Type 0} (inputs : List X) (n : ℕ) (x : X) → slice_get inputs n ≡ Some x → take (n + 1) inputs ≡ take n inputs ++ x ∷ []
one_more inputs n x at = take_more inputs n x (slice_get_within inputs n x at)
    ∙ ap (λ y. take n inputs ++ y ∷ []) (get_or_from_slice_get inputs n x x at)

starts : {X : Type 0} (IsAdmissible : List X → Type 0) (inputs : List X) (n : ℕ) (x : X) → slice_get inputs n ≡ Some x → IsAdmissible inputs
    → (rest : List X) × IsAdmissible ((take n inputs ++ x ∷ []) ++ rest)
starts IsAdmissible inputs n x at is = (drop (n + 1) inputs, rw (← one_more inputs n x at, take-append-drop) is)

pub add-requires : goal.add-requires
add-requires g c =
    let at = c.input.ensures ∙ ap Some (sym c.deref.ensures) in record {
      before = take c.loop-task.task c.args.inputs.now;
      next = c.deref.result.now;
      total_is = c.loop-task.invariant;
      output_is = c.in_ok-output.ensures;
      admissible = starts g.W.Work.IsAdmissible c.args.inputs.now c.loop-task.task c.deref.result.now at c.all.ensures.admissible;
    }

pub loop-task-preserved : goal.loop-task-preserved
loop-task-preserved g c =
    let at = c.input.ensures ∙ ap Some (sym c.deref.ensures) in
    subst (λ l. g.W.Work.IsTotalOf l c.add.new.total) (sym (one_more c.args.inputs.now c.loop-task.task c.deref.result.now at))
    (c.in_ok-add.ensures.ok (take c.loop-task.task c.args.inputs.now) c.deref.result.now c.loop-task.invariant c.in_ok-output.ensures
    (starts g.W.Work.IsAdmissible c.args.inputs.now c.loop-task.task c.deref.result.now at c.all.ensures.admissible))

pub returns-clause-total : goal.returns-clause-total
returns-clause-total g c =
    let counted = length-map c.all.result.now arc_value in
    subst (λ l. g.W.Work.IsTotalOf l c.loop-task.total)
    (take_all c.loop-task.task c.args.inputs.now (omega (arith, counted, ap length c.all.ensures.inputs, c.all.ensures.few, c.loop-task-test.false)))
    c.loop-task.invariant
