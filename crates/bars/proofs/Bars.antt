-- Bars by key, and that a list of sales, in any order, has one table.
use Rattle.std.proofs.Common.{◌≡◌, ℕ, List, [], ◌∷◌, Some, Contains, IsPermutation, Less, sym, ◌∙◌, arith}
use Rattle.std.proofs.Common.{⊎_elim}
use Rattle.std.proofs.lemmas.Bool.Decides.{nat_tests}
use Rattle.std.proofs.lemmas.List.Elements.{All-from_recursion, All-contains}
use Rattle.std.proofs.lemmas.Map.Keys.{sorted_head, sorted_tail}
use Rattle.base.proofs.Lists.{IsPermutation-filter}
use Rattle.base.proofs.Order.{Contains_cons, Contains_head, Contains_later, TellsApart, TellsApart-filter, same_from_items}
use Rattle.row_types.specs.declared.trade.Sale.{Sale}
use Rattle.bar.specs.declared.bar.Bar.{Bar}
use Rattle.bar.specs.OneBar.{Key, has_key, key_cmp}
use Rattle.bar.proofs.OneBar.{bar_of-permutation, has_itself, key_of, key_total}
use Rattle.bars.specs.Bars.{found, AreBarsOf, IsByKey}

pub AreBarsOf-permutation : (width : ℕ) (xs ys : List Sale) (table : List Bar) → TellsApart (λ s. s.place) xs → IsPermutation xs ys → AreBarsOf width xs table
    → AreBarsOf width ys table
AreBarsOf-permutation width xs ys table apart h bars = record {
  rise = bars.rise;
  each = λ key. bars.each key ∙ bar_of-permutation key _ _ (TellsApart-filter _ (has_key width key) xs apart)
      (IsPermutation-filter (has_key width key) xs ys h);
}

-- ---- a list of sales has one table

-- what a table has stands under its own key
pub found_itself : (table : List Bar) (bar : Bar) → IsByKey table → Contains table bar → found table (key_of bar) ≡ Some bar
found_itself [] bar up c = absurd (omega (arith, c.1))
found_itself (head ∷ table) bar up c =
    let below = All-contains (λ z. key_cmp head z ≡ Less) table bar (All-from_recursion _ table (sorted_head key_cmp head table up)) in
    let more = found_itself table bar (sorted_tail key_cmp head table up) in
    ⊎_elim (λ e. grind (arith, has_itself head)) (λ d. let less = below d in let here = more d in grind (arith, nat_tests)) (Contains_cons head bar table c)

pub found_in : (table : List Bar) (key : Key) (bar : Bar) → found table key ≡ Some bar → Contains table bar
found_in [] key bar e = absurd (cc)
found_in (head ∷ table) key bar e = grind (arith, Contains_head head table, Contains_later head bar table, found_in table key bar)

pub tables_agree : (one other : List Bar) → IsByKey one → IsByKey other → ((key : Key) → found one key ≡ found other key) → one ≡ other
tables_agree one other up vp same =
    same_from_items key_cmp key_total one other up vp (λ bar c. found_in other _ bar (sym (same _) ∙ found_itself one bar up c))
    (λ bar c. found_in one _ bar (same _ ∙ found_itself other bar vp c))

pub AreBarsOf-unique : (width : ℕ) (sales : List Sale) (one other : List Bar) → AreBarsOf width sales one → AreBarsOf width sales other → one ≡ other
AreBarsOf-unique width sales one other p q = tables_agree one other p.rise q.rise (λ key. p.each key ∙ sym (q.each key))
