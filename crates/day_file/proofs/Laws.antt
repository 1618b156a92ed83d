-- What follows for the frames of a file.
use Rattle.std.proofs.Common.{◌≡◌, ℕ, ◌+◌, ◌<◌, ◌≤◌, List, [], ◌∷◌, ◌++◌, length, All, Less, nat_cmp, sym, ap, subst, arith}
use Rattle.std.specs.Cmp.{nat_cmp_is}
use Rattle.std.specs.List.{AllByRecursion}
use Rattle.std.specs.List.Sorted.{IsStrictlySortedBy}
use Rattle.std.proofs.lemmas.List.{length-append, length-drop}
use Rattle.std.proofs.lemmas.List.Elements.{All-cons, All-nil, recursion_from_All}
use Rattle.byteorder.specs.Endian.{big_bytes}
use Rattle.base.proofs.Lists.{All-parts}
use Rattle.base.specs.Among.{AreBytes}
use Rattle.day_file.specs.Frames.{PlacedBody, frame_of, spelling, StandAt, StandsFor, IsTruncatedAt}
use Rattle.day_file.proofs.Readings.{same_reading, IsReading-whole, IsReading-truncated, length-spelling}

-- ---- places

-- the first of frames stand at their place, and those behind them where they end
pub StandAt-split : (place : ℕ) (xs ys : List PlacedBody) → StandAt place (xs ++ ys) → StandAt place xs × StandAt (place + length (spelling xs)) ys
StandAt-split place [] ys p = (tt, subst (λ n. StandAt n ys) (omega arith) p)
StandAt-split place (x ∷ xs) ys p =
    let q = StandAt-split (place + length (frame_of x.body)) xs ys p.1 in
    ((p.0, q.0), subst (λ n. StandAt n ys) (omega (arith, length-append (frame_of x.body) (spelling xs))) q.1)

-- frames begin and end between their place and where they end
spans : (place : ℕ) (xs : List PlacedBody) → StandAt place xs
    → All (λ frame. (place ≤ frame.place) × (frame.place + 2 + length frame.body ≤ place + length (spelling xs))) xs
spans place [] p = All-nil _
spans place (x ∷ xs) p =
    let n = length-spelling x xs in
    let later = spans (place + length (frame_of x.body)) xs p.1 in
    All-cons (λ frame. (place ≤ frame.place) × (frame.place + 2 + length frame.body ≤ place + length (spelling (x ∷ xs)))) x xs
    (omega (arith, p.0), omega (arith, p.0, n)) (λ k d h. let one = later k d h in (omega (arith, one.0), omega (arith, one.1, n)))

-- the places of frames rise
pub places_rise : (place : ℕ) (xs : List PlacedBody) → StandAt place xs → IsStrictlySortedBy (λ a b. nat_cmp a.place b.place) xs
unfolding IsStrictlySortedBy
places_rise place [] p = tt
places_rise place (x ∷ xs) p =
    let next = place + length (frame_of x.body) in
    let later = spans next xs p.1 in
    (recursion_from_All _ xs (λ k d h. sym (nat_cmp_is x.place _ Less (omega (arith, p.0, later k d h)))), places_rise next xs p.1)

-- each frame of a file ends within it
pub frames_within : (bytes : List ℕ) (frames : List PlacedBody) → StandsFor frames bytes
    → All (λ frame. frame.place + 2 + length frame.body ≤ length bytes) frames
frames_within bytes frames s k d h = omega (arith, ap length s.whole, spans 0 frames s.places k d h)

-- ---- one reading

pub frames_are_one : (bytes : List ℕ) (some others : List PlacedBody) → StandsFor some bytes → StandsFor others bytes → some ≡ others
frames_are_one bytes some others p q = (same_reading some others (IsReading-whole p) (IsReading-whole q)).0

pub not_both : (bytes : List ℕ) (frames : List PlacedBody) (place : ℕ) → StandsFor frames bytes → ¬ IsTruncatedAt bytes place
not_both bytes frames place s t =
    let e = (same_reading frames t.front.0 (IsReading-whole s) (IsReading-truncated t t.front.1)).1 in
    omega (arith, ap length e, length-drop place bytes, t.within)

pub truncated_once : (bytes : List ℕ) (one other : ℕ) → IsTruncatedAt bytes one → IsTruncatedAt bytes other → one ≡ other
truncated_once bytes one other p q =
    let e = (same_reading p.front.0 q.front.0 (IsReading-truncated p p.front.1) (IsReading-truncated q q.front.1)).1 in
    omega (arith, ap length e, length-drop one bytes, length-drop other bytes, p.within, q.within)

-- ---- bodies

-- the bodies of the frames of bytes are bytes
bodies : (frames : List PlacedBody) → AreBytes (spelling frames) → AllByRecursion (λ (f : PlacedBody). AreBytes f.body) frames
bodies [] all = tt
bodies (f ∷ fs) all =
    let here = All-parts (λ byte. byte < 256) (frame_of f.body) (spelling fs) all in
    ((All-parts (λ byte. byte < 256) (big_bytes 2 (length f.body)) f.body here.0).1, bodies fs here.1)

pub bodies_are_bytes : (bytes : List ℕ) (frames : List PlacedBody) → AreBytes bytes → StandsFor frames bytes
    → AllByRecursion (λ (f : PlacedBody). AreBytes f.body) frames
bodies_are_bytes bytes frames are stands = bodies frames (subst AreBytes stands.whole are)

pub ruleset laws_of_frames = (frames_are_one, places_rise, frames_within)
