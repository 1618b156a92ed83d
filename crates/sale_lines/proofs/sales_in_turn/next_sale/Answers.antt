use Rattle.std.proofs.Common.{◌≡◌, ◌+◌, Bor, List, filter, rules, sym, ap, ap₂, ◌∙◌, ◌++◌, flat_map, get_or, option_to_list, take}
use Rattle.std.specs.List.{slice_get}
use Rattle.std.proofs.lemmas.List.Folds.{flat_map-map}
use Rattle.std.proofs.lemmas.List.Kept.{IsStrictlySortedBy-filter}
use Rattle.std.proofs.lemmas.List.Sorted.{answers_always}
use Rattle.base.specs.Least.{least_by}
use Rattle.row_types.specs.SalesByPlace.{place_cmp}
use Rattle.time_and_sales.specs.Lent.{all_sales, lent}
use Rattle.time_and_sales.specs.Ranges.{is_behind, is_in_first}
use Rattle.time_and_sales.specs.Texts.{Sale}
use Rattle.time_and_sales.proofs.SortedByPlace.{place_of, places_rise}
use Rattle.sale_lines.proofs.TakenInTurn.{first_is_least, least_more_lists}
use Rattle.sale_lines.proofs.sales_in_turn.next_sale.Goals as goal

pub within-sales-requires : goal.within-sales-requires
within-sales-requires c = places_rise c.items.result.now c.items.ensures.by_place

pub behind-requires : goal.behind-requires
behind-requires c =
    let in_range = is_in_first place_of c.args.bounds.now in
    rw c.within-sales.ensures
    (places_rise (filter in_range c.items.result.now) (IsStrictlySortedBy-filter place_cmp in_range c.items.result.now c.items.ensures.by_place))

pub loop-listing-preserved : goal.loop-listing-preserved
loop-listing-preserved c =
    let listings = c.args.listings.now in
    let i = c.loop-listing.listing-index in
    let in_range = is_in_first place_of c.args.bounds.now in
    let left = is_behind place_of c.args.last in
    let all : (l : List (Bor (List Sale))) → all_sales (lent l) ≡ flat_map (λ (one : Bor (List Sale)). one.now) l =
    λ l. flat_map-map (λ (sales : List Sale). sales) (λ (one : Bor (List Sale)). one.now) l in
    let keep : List Sale → List Sale = λ sales. filter left (filter in_range sales) in
    let sales = c.items.result.now in
    let found : c.copied-first.result ≡ least_by place_of (keep sales) =
    c.copied-first.ensures ∙ c.first.ensures.value ∙ ap (λ l. slice_get l 0) (c.behind.ensures ∙ ap (filter left) c.within-sales.ensures)
    ∙ sym (first_is_least place_of (keep sales) (IsStrictlySortedBy-filter place_cmp left (filter in_range sales)
    (IsStrictlySortedBy-filter place_cmp in_range sales c.items.ensures.by_place))) in
    let item : (get_or listings i c.listing-item.result).now ≡ sales = search rules in
    c.earlier-next.ensures place_of (answers_always _ _ _ (λ f a r g called. search rules))
    ∙ ap₂ (λ a b. least_by place_of (option_to_list a ++ option_to_list b))
    (c.loop-listing.invariant ∙ ap (λ l. least_by place_of (keep l)) (all (take i listings)))
    (found ∙ ap (λ l. least_by place_of (keep l)) (sym item))
    ∙ sym (least_more_lists place_of left in_range (λ (one : Bor (List Sale)). one.now) listings i c.listing-item.result c.loop-listing-test.true)
    ∙ ap (λ l. least_by place_of (keep l)) (sym (all (take (i + 1) listings)))
