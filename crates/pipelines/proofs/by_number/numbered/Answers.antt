use Rattle.std.proofs.Common.{◌≡◌, length, add-one, ap, subst, arith}
use Rattle.std.specs.Arc.{arc_value}
use Rattle.std.proofs.lemmas.List.{length-map, map_push}
use Rattle.std.proofs.lemmas.List.FromFn.{length-range_with_len}
use Rattle.base.proofs.Lists.{range_more}
use Rattle.pipelines.proofs.by_number.numbered.Goals as goal

pub loop-number-preserved : goal.loop-number-preserved
loop-number-preserved g c =
    let n = c.loop-number.number in
    rw (c.in_ok-push.ensures.items, map_push, c.loop-number.invariant, c.in_ok-numbered_input.ensures, add-one, range_more 0 n n (omega arith))

pub of-requires-clause-admissible : goal.of-requires-clause-admissible
of-requires-clause-admissible g c κs within =
    let counted = length-map c.all-all.result.now arc_value in
    let all : c.loop-number.number ≡ length g.K.Known.inputs = omega (arith, counted, ap length c.all-all.ensures.inputs, ap length c.requires) in
    (rw (c.loop-number.invariant, all), subst g.W.Work.IsAdmissible c.requires c.all-all.ensures.admissible)

pub of-requires-clause-few : goal.of-requires-clause-few
of-requires-clause-few g c κs within =
    let made = length-map c.loop-number.items.items arc_value in
    let counted = length-range_with_len 0 c.loop-number.number in
    omega (arith, made, counted, ap length c.loop-number.invariant, c.all-all.ensures.few)
