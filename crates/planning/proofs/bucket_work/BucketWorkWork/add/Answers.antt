use Rattle.std.proofs.Common.{◌≡◌, List, [], ◌∷◌, ◌++◌, option_to_list, map, ap, ◌∙◌, rules, sym, ap₂}
use Rattle.std.specs.Arc.{arc_value}
use Rattle.std.specs.declared.sync.Arc.{Arc}
use Rattle.base.specs.Least.{least_by}
use Rattle.base.proofs.Least.{least_more}
use Rattle.order_table.specs.declared.table.Repeated.{Repeated}
use Rattle.row_types.specs.declared.trade.Unknown.{Unknown}
use Rattle.buckets.specs.Buckets.{found, total_found}
use Rattle.buckets.specs.FoundRows.{FoundView, TotalView, all_found}
use Rattle.buckets.specs.BucketRows.{BucketView}
use Rattle.buckets.specs.declared.product.Product.{Product}
use Rattle.std.proofs.lemmas.List.{map_push}
use Rattle.std.proofs.lemmas.List.Sorted.{answers_always}
use Rattle.planning.proofs.bucket_work.BucketWorkWork.add.Goals as goal

-- a total with what is found in one more partition
abbrev with_found : TotalView → FoundView → TotalView
with_found total one = record {
  repeated = least_by (λ (repeated : Repeated). repeated.place) (option_to_list total.repeated ++ option_to_list one.repeated);
  unknown = least_by (λ (unknown : Unknown). unknown.place) (option_to_list total.unknown ++ option_to_list one.unknown);
  products = total.products ++ one.product ∷ [];
}

-- the total of one bucket more
total_found_more : (before : List BucketView) (next : BucketView) → total_found (before ++ next ∷ []) ≡ with_found (total_found before) (found next)
total_found_more before next = ap all_found (map_push found before next) ∙ more (map found before) (found next)
  where
    more : (all : List FoundView) (one : FoundView) → all_found (all ++ one ∷ []) ≡ with_found (all_found all) one
    more all one =
        let repeated = least_more (λ (r : Repeated). r.place) (λ (f : FoundView). f.repeated) all one in
        let unknown = least_more (λ (u : Unknown). u.place) (λ (f : FoundView). f.unknown) all one in
        let products = map_push (λ (f : FoundView). f.product) all one in
        λ i. record { repeated = repeated i; unknown = unknown i; products = products i }

-- shared products with one more
products_more : {Z : Type 0} (items new : List (Arc Product Z)) (one : Arc Product Z) (product : Product) → new ≡ items ++ one ∷ []
    → arc_value one ≡ product
    → map arc_value new ≡ map arc_value items ++ product ∷ []
products_more items new one product e same = ap (map arc_value) e ∙ map_push arc_value items one ∙ ap (λ p. map arc_value items ++ p ∷ []) same

pub returns-clause-ok : goal.returns-clause-ok
returns-clause-ok c before next was made begins =
    let products = products_more c.total.inside.products.items c.push.new.self.items c.in_ok-product.product (arc_value c.output.inside.product)
    c.in_ok-push.ensures.items c.in_ok-product.ensures in
    let repeated = c.earlier-total-inside.ensures (λ repeated. repeated.place) (answers_always _ _ _ (λ f a r g called. search rules)) in
    let unknown = c.earlier-total-inside-2.ensures (λ unknown. unknown.place) (answers_always _ _ _ (λ f a r g called. search rules)) in
    (λ i. record { repeated = repeated i; unknown = unknown i; products = products i })
    ∙ ap₂ with_found c.total.view_is c.output.view_is
    ∙ ap₂ with_found was made
    ∙ sym (total_found_more before next)
