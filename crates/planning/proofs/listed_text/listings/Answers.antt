use Rattle.std.proofs.Common.{arith}
use Rattle.std.proofs.Common.{append-nil}
use Rattle.std.specs.Arc.{arc_value}
use Rattle.std.proofs.lemmas.List.{map_more, map_push}
use Rattle.std.proofs.lemmas.List.Elements.{filter_map-append}
use Rattle.planning.proofs.listed_text.listings.Goals as goal
use Rattle.planning.proofs.listed_text.listings.Goals.{in-Listed+in_ok-push-in-Listed, in-Tabled}

pub loop-product-preserved : goal.loop-product-preserved
loop-product-preserved c =
    let next = map_more arc_value c.args.products.now c.loop-product.product-index c.product-item.result c.loop-product-test.true in
    elim c.match-deref.branch [
      | in-Listed+in_ok-push-in-Listed w ↦ grind (arith, map_push, filter_map-append)
      | in-Tabled w ↦ grind (arith, append-nil, filter_map-append)
    ]
