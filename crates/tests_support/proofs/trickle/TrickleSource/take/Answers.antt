use Rattle.std.proofs.Common.{◌++◌, sym, ap, ◌∙◌}
use Rattle.std.proofs.lemmas.List.{take_more_set}
use Rattle.tests_support.proofs.trickle.TrickleSource.take.Goals as goal

pub returns-clause-gave : goal.returns-clause-gave
returns-clause-gave c =
    let front = take_more_set c.args.into.now 0 c.in-Some.first.now c.requires.room in
    c.in-Some.ensures.cases.0 ∙ ap (λ l. l ++ c.in-Some.rest.now) (sym front)
