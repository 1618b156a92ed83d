use Rattle.std.proofs.Common.{◌+◌, ◌-◌, ◌++◌, ◌∷◌, [], ap, length, map, sym, take, ◌∙◌, subst, arith}
use Rattle.std.specs.Arc.{arc_value}
use Rattle.std.proofs.lemmas.List.{length-map, length-take-le, map_push, take_all}
use Rattle.day_file.specs.Cuts.{MorselView}
use Rattle.scanning.specs.Scans.{AreTogether}
use Rattle.scanning.proofs.JoinedRuns.{few_inputs, of_one_cut, one_together}
use Rattle.scanning.proofs.MorselInputs.{are_few, are_runs, as_many, begins_at, part_bytes, part_within}
use Rattle.scanning.proofs.cut_inputs.batch_inputs.Goals as goal

pub overflow_cast-number : goal.overflow_cast-number
overflow_cast-number c =
    let l = c.loop-from in
    let runs = c.args.cut.now in
    let cut = c.morsels-morsels.ensures in
    omega (
      arith,
      c.len.ensures,
      length-map l.inputs.items arc_value,
      few_inputs l.invariant.0,
      length-take-le l.from runs (omega (arith, l.invariant.1, as_many arc_value c.morsels-morsels.result.now cut)),
      l.invariant.1,
      as_many arc_value c.morsels-morsels.result.now cut,
      cut.few,
    )

pub overflow_add-number : goal.overflow_add-number
overflow_add-number c =
    let l = c.loop-from in
    let runs = c.args.cut.now in
    let cut = c.morsels-morsels.ensures in
    omega (
      arith,
      c.len.ensures,
      length-map l.inputs.items arc_value,
      few_inputs l.invariant.0,
      length-take-le l.from runs (omega (arith, l.invariant.1, as_many arc_value c.morsels-morsels.result.now cut)),
      c.loop-from-test.true,
      as_many arc_value c.morsels-morsels.result.now cut,
      are_few arc_value c.morsels-morsels.result.now cut {start = c.args.start} c.requires.few c.requires.within,
    )

pub overflow_add-place : goal.overflow_add-place
overflow_add-place c =
    let l = c.loop-from in
    let runs = c.args.cut.now in
    let ms = c.morsels-morsels.result.now in
    let cut = c.morsels-morsels.ensures in
    let at = c.start.ensures ∙ ap (λ (m : MorselView). m.start) c.deref.ensures
    ∙ begins_at arc_value ms cut c.loop-from-test.true c.index-morsels-from.is in
    omega (arith, at, part_within runs l.from 0, (are_runs arc_value ms cut {first = c.args.first} c.requires.few c.requires.within).within)

pub of-requires-clause-within : goal.of-requires-clause-within
of-requires-clause-within c =
    let l = c.loop-from in
    let runs = c.args.cut.now in
    let ms = c.morsels-morsels.result.now in
    let cut = c.morsels-morsels.ensures in
    let n = c.min-to.result - l.from in
    let at = c.start.ensures ∙ ap (λ (m : MorselView). m.start) c.deref.ensures
    ∙ begins_at arc_value ms cut c.loop-from-test.true c.index-morsels-from.is in
    omega (
      arith,
      at,
      ap length (part_bytes arc_value ms cut l.from n),
      part_within runs l.from n,
      (are_runs arc_value ms cut {first = c.args.first} c.requires.few c.requires.within).within,
    )

pub loop-from-preserved : goal.loop-from-preserved
loop-from-preserved c =
    let l = c.loop-from in
    let runs = c.args.cut.now in
    let ms = c.morsels-morsels.result.now in
    let cut = c.morsels-morsels.ensures in
    let n = c.min-to.result - l.from in
    let at = c.start.ensures ∙ ap (λ (m : MorselView). m.start) c.deref.ensures
    ∙ begins_at arc_value ms cut c.loop-from-test.true c.index-morsels-from.is in
    let number = c.args.first + c.len.result in
    let place = c.args.start + c.start.result in
    let bytes = part_bytes arc_value ms cut l.from n in
    let last = c.in_ok-new.ensures.ok ∙ c.in_ok-input.ensures
    ∙ ap (λ b. record { morsel = record { number = number; start = place; bytes = b }; as_of = c.args.as_of; parts = c.args.parts }) bytes in
    let inputs = ap (map arc_value) c.in_ok-push.ensures.items ∙ map_push arc_value l.inputs.items c.in_ok-new.field-0
    ∙ ap (λ x. map arc_value l.inputs.items ++ x ∷ []) last in (
      subst (AreTogether c.args.together c.args.first c.args.start c.args.as_of c.args.parts (take c.min-to.result runs)) (sym inputs)
          (one_together runs l.invariant.0 (omega (arith, c.min-to.ensures, c.saturating_add.ensures, c.requires.together, c.loop-from-test.true, l.auto.from-fits))
          (omega (arith, c.min-to.ensures, as_many arc_value ms cut)) (omega (arith, c.min-to.ensures, c.saturating_add.ensures))
          (omega (arith, c.len.ensures, length-map l.inputs.items arc_value)) (omega (arith, at))),
      omega (arith, c.min-to.ensures),
    )

pub of-requires-2-clause-admissible : goal.of-requires-2-clause-admissible
of-requires-2-clause-admissible c κs =
    let runs = c.args.cut.now in
    let ms = c.morsels-morsels.result.now in
    let cut = c.morsels-morsels.ensures in
    let whole = take_all c.loop-from.from runs (omega (arith, c.loop-from-test.false, as_many arc_value ms cut)) in
    of_one_cut (rw whole at c.loop-from.invariant.0) c.requires.parts.0
    (are_runs arc_value ms cut {first = c.args.first} c.requires.few c.requires.within)

pub of-requires-2-clause-few : goal.of-requires-2-clause-few
of-requires-2-clause-few c κs =
    let runs = c.args.cut.now in
    let ms = c.morsels-morsels.result.now in
    let cut = c.morsels-morsels.ensures in
    let whole = take_all c.loop-from.from runs (omega (arith, c.loop-from-test.false, as_many arc_value ms cut)) in
    omega (arith, length-map c.loop-from.inputs.items arc_value, few_inputs (rw whole at c.loop-from.invariant.0), cut.few)

pub returns-clause-inputs : goal.returns-clause-inputs
returns-clause-inputs c =
    let runs = c.args.cut.now in
    let ms = c.morsels-morsels.result.now in
    let cut = c.morsels-morsels.ensures in
    let whole = take_all c.loop-from.from runs (omega (arith, c.loop-from-test.false, as_many arc_value ms cut)) in
    rw c.of-2.ensures (rw whole at c.loop-from.invariant.0)
