use Rattle.std.proofs.Common.{◌<◌, IsPermutation, ap, ◌∙◌, subst}
use Rattle.std.proofs.lemmas.List.Elements.{All-filter}
use Rattle.std.proofs.lemmas.Result.{IfOk-weaker}
use Rattle.base.specs.declared.limits.TheConstants.{TIME_LIMIT}
use Rattle.time_and_sales.specs.Ranges.{is_in_first}
use Rattle.time_and_sales.specs.Lent.{all_sales, lent}
use Rattle.time_and_sales.specs.Names.{names_by}
use Rattle.time_and_sales.specs.Texts.{Sale, lines_text}
use Rattle.time_and_sales.proofs.SortedByPlace.{place_of}
use Rattle.sale_lines.proofs.SalesInRanges.{all_within, range_is}
use Rattle.sale_lines.proofs.sales_in_ranges.range_lines.Goals as goal

pub lines-requires : goal.lines-requires
lines-requires c =
    let p = is_in_first place_of c.args.bounds.now in
    let listings = lent c.args.listings.now in
    record {
      made = c.requires.made;
      by_place = c.in_ok-parts.ensures.by_place;
      times = rw (ap all_sales c.in_ok-parts.ensures.sales ∙ all_within p listings)
          (All-filter p (λ (s : Sale). s.time < TIME_LIMIT) (all_sales listings) c.requires.times);
    }

pub returns : goal.returns
returns c =
    let p = is_in_first place_of c.args.bounds.now in
    let listings = lent c.args.listings.now in
    IfOk-weaker c.lines.result _ _ (λ text made all up perm.
    let part = subst (λ l. IsPermutation l made.0) (ap all_sales c.in_ok-parts.ensures.sales ∙ all_within p listings) made.2 in
    made.3 ∙ ap (lines_text (names_by c.args.names.now)) (range_is p (all_sales listings) all made.0 up perm made.1 part)) c.lines.ensures
