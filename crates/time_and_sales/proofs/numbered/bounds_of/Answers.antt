use Rattle.std.proofs.Common.{◌++◌, ap, append_assoc, arith, sym, ◌∙◌}
use Rattle.std.proofs.lemmas.Grind.{common_steps}
use Rattle.std.proofs.lemmas.List.{append-nil, at_drop_all, at_drop_more}
use Rattle.time_and_sales.specs.Ranges.{greatest_so_far}
use Rattle.time_and_sales.proofs.numbered.bounds_of.Goals as goal

pub loop-number-preserved : goal.loop-number-preserved
loop-number-preserved c = grind (arith, common_steps, append_assoc, at_drop_more)

pub returns : goal.returns
returns c =
    let none = at_drop_all (greatest_so_far c.loop-number.bound) c.args.numbers.now c.loop-number.number-index c.loop-number-test.false in
    sym (append-nil c.loop-number.bounds.items) ∙ ap (λ l. c.loop-number.bounds.items ++ l) (sym none) ∙ c.loop-number.invariant
