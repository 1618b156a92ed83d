use Rattle.std.proofs.Common.{rules, ◌≡◌, nat_eq, refl, ap, ap₂, ◌∙◌}
use Rattle.std.specs.Arc.{arc_value}
use Rattle.std.specs.List.{flat_map}
use Rattle.std.specs.Ordering.{nat_cmp}
use Rattle.std.specs.Cmp.Lexicographic.{pointwise}
use Rattle.std.proofs.lemmas.Iterator.{YieldsList-from_slice}
use Rattle.std.proofs.lemmas.Iterator.Adapters.{YieldsList-from_flat_map}
use Rattle.std.proofs.lemmas.Iterator.Search.{cmp_from_yields_List}
use Rattle.day_file.specs.Cuts.{MorselView}
use Rattle.scanning.specs.Scans.{ScanInputView}
use Rattle.scanning.proofs.InputFrames.{bytes_flat, same_bytes}
use Rattle.scanning.proofs.input.ScanInput.has_bytes_of.Goals as goal

pub returns : goal.returns
returns c =
    let ones = c.self.inside.morsels.items in
    let others = c.other.inside.morsels.items in
    let fact = cmp_from_yields_List (λ x y. y ≡ x) _ nat_cmp _ c.cmp.ensures.ran
    (YieldsList-from_flat_map _ _ _ (λ y. y.now) (λ m. (arc_value {X = MorselView} m).bytes) _
    (λ x u q k.
    let here : (q ≡ record {}) × (u.now ≡ (arc_value {X = MorselView} x.now).bytes) = search rules in
    (here.0, λ j e. YieldsList-from_slice _ (e.0 ∙ here.1)))
    (YieldsList-from_slice ones cc)
    c.flat_map-bytes.ensures.closure c.flat_map-bytes.ensures.front c.flat_map-bytes.ensures.back c.flat_map-bytes.ensures.done)
    (λ it e.
    YieldsList-from_flat_map {s = it} _ _ _ (λ y. y.now) (λ m. (arc_value {X = MorselView} m).bytes) _
    (λ x u q k.
    let here : (q ≡ record {}) × (u.now ≡ (arc_value {X = MorselView} x.now).bytes) = search rules in
    (here.0, λ j e. YieldsList-from_slice _ (e.0 ∙ here.1)))
    (YieldsList-from_slice others (cc)) (cc) (cc) (cc) cc)
    (λ x y. refl) in
    c.is_eq.ensures ∙ same_bytes (flat_map (λ m. (arc_value {X = MorselView} m).bytes) ones) (flat_map (λ m. (arc_value {X = MorselView} m).bytes) others) _ fact ∙ ap₂ (pointwise nat_eq)
    (bytes_flat arc_value ones ∙ ap (λ (input : ScanInputView). input.morsel.bytes) c.self.view_is)
    (bytes_flat arc_value others ∙ ap (λ (input : ScanInputView). input.morsel.bytes) c.other.view_is)
