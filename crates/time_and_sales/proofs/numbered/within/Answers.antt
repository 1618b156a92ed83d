use Rattle.std.proofs.Common.{filter, get_or, ltb, sym, ap, ◌∙◌, arith}
use Rattle.time_and_sales.proofs.InRanges.{no_bound, two_bounds}
use Rattle.time_and_sales.proofs.numbered.within.Goals as goal

pub returns-in-empty : goal.returns-in-empty
returns-in-empty g c = sym (no_bound g.N.Numbered.number_of c.args.bounds.now c.args.items.now (omega (arith, c.in-empty.len_below)))

pub returns-in-len2-up : goal.returns-in-len2-up
returns-in-len2-up g c =
    let bounds = c.args.bounds.now in
    c.parted-in-len2-up-2.ensures.below ∙ ap (filter (λ item. ltb (g.N.Numbered.number_of item) (get_or bounds 1 0))) c.parted-in-len2-up.ensures.others
    ∙ two_bounds g.N.Numbered.number_of bounds c.args.items.now (omega (arith, c.in-len2-up.len_at_least))
