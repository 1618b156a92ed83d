use Rattle.std.proofs.Common.{[], ◌∷◌, subst, sym, All, ◌++◌, arith, length-append}
use Rattle.std.proofs.lemmas.List.{append-nil}
use Rattle.std.proofs.lemmas.List.Elements.{All-append}
use Rattle.bar.specs.OneBar.{IsTraded}
use Rattle.bars.proofs.SumsAreBounded.{all_sums_fit}
use Rattle.tests_of_rows.proofs.lines_of_bars.tables.Goals as goal

pub returns : goal.returns
returns c =
    let few = c.in_ok-minutes.ensures.bars in
    let many = c.in_ok-minutes-2.ensures.bars in
    all_sums_fit 60 (few.0 ∷ many.0 ∷ []) (_ ∷ _ ∷ []) (few.1, (many.1, tt))
    (All-append IsTraded _ _ c.in_ok-minutes.ensures.traded (subst (All IsTraded) (sym (append-nil _)) c.in_ok-minutes-2.ensures.traded))
    (omega (arith, few.2, many.2, length-append few.0 (many.0 ++ []), length-append many.0 []))
