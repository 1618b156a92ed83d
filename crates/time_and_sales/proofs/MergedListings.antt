-- Listings merged: what the parts give, and in which order.
use Rattle.std.proofs.Common.{◌≡◌, ◌+◌, Bool, ltb, List, [], ◌∷◌, ◌++◌, map, length, All, Vec, arith}
use Rattle.std.proofs.Common.{append-nil, append_assoc}
use Rattle.std.specs.List.Sorted.{IsSortedBy}
use Rattle.std.specs.Vec.Iter.{into_iter_items, into_iter_len, into_iter_steps}
use Rattle.std.specs.declared.vec.IntoIter.{IntoIter}
use Rattle.std.proofs.lemmas.Bool.Decides.{nat_tests}
use Rattle.std.proofs.lemmas.List.{map_push, nil_from_length}
use Rattle.std.proofs.lemmas.List.Elements.{All-map, All-weaker}
use Rattle.std.proofs.lemmas.List.Folds.{flat_map-map}
use Rattle.std.proofs.lemmas.Iterator.Adapters.{YieldsList-from_vec}
use Rattle.std.proofs.lemmas.Map.Keys.{Less-from_sorted}
use Rattle.itertools.specs.KMerge.{SourcesGive}
use Rattle.time_and_sales.specs.Ranges.{all_items}
use Rattle.row_types.specs.declared.trade.Sale.{Sale}
use Rattle.row_types.specs.SalesByPlace.{place_cmp, IsByPlace}
use Rattle.time_and_sales.specs.Lent.{all_sales}

abbrev pub before : Sale → Sale → Bool
before a b = ltb a.place b.place

abbrev pub items_of : {Z : Type 0} → List (Vec Sale Z) → List (List Sale)
items_of {Z} parts = map (λ (p : Vec Sale Z). p.items) parts

pub parts_give : {Z : Type 0} (gives : Vec Sale Z → IntoIter Sale Z → Type 0)
    → ((p : Vec Sale Z) (j : IntoIter Sale Z) → gives p j → (into_iter_items j ≡ p.items) × (into_iter_len j ≡ length p.items))
    → (parts : List (Vec Sale Z)) → SourcesGive gives (into_iter_steps {X = Sale} {Z = Z}) parts (items_of parts)
parts_give gives h [] = tt
parts_give gives h (p ∷ parts) = ((λ j g. (YieldsList-from_vec p.items (h p j g).0 (h p j g).1).runs), parts_give gives h parts)

-- lists by place are in the merge's order
pub parts_in_order : {U : Type 0} (rest : U → List Sale) (parts : List U) → All (λ p. IsByPlace (rest p)) parts → All (IsSortedBy before) (map rest parts)
parts_in_order rest parts h =
    All-map (IsSortedBy before) rest parts (All-weaker (λ p. IsByPlace (rest p)) (λ p. IsSortedBy before (rest p))
    (λ p up k d low high. let less = Less-from_sorted place_cmp (rest p) k (k + 1) d up (omega arith) high in grind (arith, nat_tests)) parts h)

-- one item goes from what is left to the end of what was taken
pub moved : {X Y : Type 0} (f : X → Y) (taken : List X) (x : X) {new : List X} {rest more all : List Y} → map f taken ++ rest ≡ all → rest ≡ f x ∷ more
    → new ≡ taken ++ x ∷ [] → map f new ++ more ≡ all
moved f taken x told next made = rw (made, map_push, append_assoc, ← next) told

pub none_left : {T Z : Type 0} (j : IntoIter T Z) → into_iter_len j ≡ 0 → into_iter_items j ≡ []
none_left j e = nil_from_length (into_iter_items j) (omega (arith, j.rest.ok, e))

-- the parts are all lists when none is left
pub joined_parts : {Z : Type 0} (parts : List (Vec Sale Z)) (rest all : List (List Sale)) → items_of parts ++ rest ≡ all → rest ≡ []
    → all_sales all ≡ all_items parts
joined_parts {Z} parts rest all told none = rw (← told, none, append-nil) (flat_map-map (λ (l : List Sale). l) (λ (p : Vec Sale Z). p.items) parts)
