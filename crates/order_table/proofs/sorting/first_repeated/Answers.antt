use Rattle.std.proofs.Common.{◌∙◌, ◌++◌, ◌∷◌, [], ap, arith, get_or, option_to_list, rules, sym}
use Rattle.std.proofs.lemmas.List.Sorted.{answers_always}
use Rattle.base.specs.Least.{least_by}
use Rattle.order_table.specs.Orders.{OrderRow}
use Rattle.order_table.proofs.Repeats.{is_again, is_new, none_first, one_again, one_new}
use Rattle.order_table.proofs.RowsInOrder.{place_of}
use Rattle.order_table.proofs.sorting.first_repeated.Goals.{then-rows-at, else-rows-at}
use Rattle.order_table.proofs.sorting.first_repeated.Goals as goal

pub loop-at-init : goal.loop-at-init
loop-at-init c = none_first c.args.rows.now c.requires.in_order

pub loop-at-preserved : goal.loop-at-preserved
loop-at-preserved c =
    let rows = c.args.rows.now in
    let i = c.loop-at.at in
    let d : OrderRow = record { place = 0; order_no = 0; price = 0 } in
    let within = c.loop-at-test.true in
    elim c.if-rows-at.branch [
      | then-rows-at w ↦
          w.repeated-is ∙ w.earlier-repeated.ensures place_of (answers_always _ _ _ (λ f a r g called. search rules))
          ∙ ap (λ o. least_by place_of (option_to_list o ++ get_or rows i d ∷ [])) c.loop-at.invariant
          ∙ sym (one_again rows i d within (is_again rows c.requires.in_order d i (omega (arith, c.loop-at.auto.at))
          within c.requires.distinct w.if-rows-at.true))
      | else-rows-at w ↦
          w.repeated-is ∙ c.loop-at.invariant ∙ sym (one_new rows i d within (is_new rows c.requires.in_order d i within (λ some. w.if-rows-at.false)))
    ]
