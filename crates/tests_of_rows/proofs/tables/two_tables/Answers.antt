use Rattle.std.proofs.Common.{rules, arith, [], ◌∷◌, subst, sym, All}
use Rattle.std.specs.List.{IsDistinct}
use Rattle.std.proofs.lemmas.List.{append-nil}
use Rattle.std.proofs.lemmas.List.Elements.{All-append}
use Rattle.bar.specs.OneBar.{IsTraded}
use Rattle.bars.proofs.SumsAreBounded.{all_sums_fit}
use Rattle.tests_of_rows.proofs.tables.two_tables.Goals as goal

pub of_sales-requires-clause-places : goal.of_sales-requires-clause-places
unfolding IsDistinct
of_sales-requires-clause-places g c = search rules

pub of_sales-requires-2-clause-places : goal.of_sales-requires-2-clause-places
unfolding IsDistinct
of_sales-requires-2-clause-places g c = search rules

pub returns-clause-all : goal.returns-clause-all
returns-clause-all g c =
    all_sums_fit _ (_ ∷ _ ∷ []) (_ ∷ _ ∷ []) (c.in_ok-of_sales.ensures.bars, (c.in_ok-of_sales-2.ensures.bars, tt))
    (All-append IsTraded _ _ c.in_ok-of_sales.ensures.traded
    (subst (All IsTraded) (sym (append-nil _)) c.in_ok-of_sales-2.ensures.traded)) (omega arith)

pub returns-clause-all_turned : goal.returns-clause-all_turned
returns-clause-all_turned g c =
    all_sums_fit _ (_ ∷ _ ∷ []) (_ ∷ _ ∷ []) (c.in_ok-of_sales-2.ensures.bars, (c.in_ok-of_sales.ensures.bars, tt))
    (All-append IsTraded _ _ c.in_ok-of_sales-2.ensures.traded
    (subst (All IsTraded) (sym (append-nil _)) c.in_ok-of_sales.ensures.traded)) (omega arith)

pub returns-clause-fit : goal.returns-clause-fit
returns-clause-fit g c = rw append-nil at (returns-clause-all g c)

pub returns-clause-turned : goal.returns-clause-turned
returns-clause-turned g c = rw append-nil at (returns-clause-all_turned g c)
