-- Items at rising places stand at places of their own.
use Rattle.std.proofs.Common.{ℕ, ◌<◌, eqb, map, length, List, [], arith, rules}
use Rattle.std.specs.List.{AllPairs, IsDistinct}
use Rattle.std.proofs.lemmas.Bool.Decides.{nat_tests}
use Rattle.std.proofs.lemmas.List.{length-map, get_or-map}
use Rattle.std.proofs.lemmas.Map.Keys.{IsDistinct-from_apart}

-- no places are apart
pub no_places_apart : IsDistinct eqb []
unfolding IsDistinct
no_places_apart = search rules

pub apart_where_rising : {X : Type 0} (place : X → ℕ) (none : X) (items : List X) → AllPairs (λ x y. place x < place y) items
    → IsDistinct eqb (map place items)
apart_where_rising place none items rise =
    IsDistinct-from_apart eqb (map place items) (λ i j d p q.
    let within : j < length items = omega (arith, q, length-map items place) in
    grind (arith, nat_tests, get_or-map place items i none d (omega (arith, p, within)), get_or-map place items j none d within, rise i j none p within))
