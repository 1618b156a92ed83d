use Rattle.std.proofs.Common.{◌<◌, ◌^◌, ◌++◌, sym, ap, subst, All}
use Rattle.std.proofs.lemmas.List.{append-nil}
use Rattle.std.proofs.lemmas.List.Sorted.{All-permutation, IsPermutation-append}
use Rattle.row_types.specs.declared.trade.Sale.{Sale}
use Rattle.time_and_sales.specs.Lent.{AreApart}
use Rattle.time_and_sales.proofs.SortedByPlace.{apart_together}
use Rattle.tests_of_rows.proofs.listings.listings.Goals as goal

pub of_sales-one-requires : goal.of_sales-one-requires
of_sales-one-requires g c = subst AreApart (sym c.in_ok-from_slice.ensures.items) c.sales_apart.ensures.one

pub of_sales-other-requires : goal.of_sales-other-requires
of_sales-other-requires g c = subst AreApart (sym c.in_ok-from_slice-2.ensures.items) c.sales_apart.ensures.other

pub returns-clause-both : goal.returns-clause-both
returns-clause-both g c =
    apart_together _ _ _ _ c.of_sales-one.ensures.permutation c.of_sales-other.ensures.permutation
    (subst (λ l. AreApart (l ++ c.in_ok-from_slice-2.field-0.items)) (sym c.in_ok-from_slice.ensures.items)
    (subst (λ l. AreApart (c.sales_apart.result.0 ++ l)) (sym c.in_ok-from_slice-2.ensures.items) c.sales_apart.ensures.both))

pub returns-clause-turned : goal.returns-clause-turned
returns-clause-turned g c =
    apart_together _ _ _ _ c.of_sales-other.ensures.permutation c.of_sales-one.ensures.permutation
    (subst (λ l. AreApart (c.in_ok-from_slice-2.field-0.items ++ l)) (sym c.in_ok-from_slice.ensures.items)
    (subst (λ l. AreApart (l ++ c.sales_apart.result.0)) (sym c.in_ok-from_slice-2.ensures.items) c.sales_apart.ensures.turned))

pub returns-clause-all : goal.returns-clause-all
returns-clause-all g c = subst AreApart (ap (λ l. c.of_sales-one.result ++ l) (sym (append-nil _))) (returns-clause-both g c)

pub returns-clause-times : goal.returns-clause-times
returns-clause-times g c =
    let early = All (λ (sale : Sale). sale.time < 2 ^ 48) in
    subst early (ap (λ l. c.of_sales-one.result ++ l) (sym (append-nil _)))
    (All-permutation (λ (sale : Sale). sale.time < 2 ^ 48) _ _
    (IsPermutation-append _ _ _ _ c.of_sales-one.ensures.permutation c.of_sales-other.ensures.permutation)
    (subst (λ l. early (l ++ c.in_ok-from_slice-2.field-0.items)) (sym c.in_ok-from_slice.ensures.items)
    (subst (λ l. early (c.sales_apart.result.0 ++ l)) (sym c.in_ok-from_slice-2.ensures.items) c.sales_apart.ensures.times)))
