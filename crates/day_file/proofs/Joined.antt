-- Whole frames that stand elsewhere, and that follow whole frames.
use Rattle.std.proofs.Common.{◌≡◌, ℕ, ◌+◌, List, [], ◌∷◌, ◌++◌, length, take, drop, refl, sym, ap, ap₂, ◌∙◌, subst}
use Rattle.std.proofs.Common.{arith, Option, Some, None, MatchOption}
use Rattle.std.proofs.Math.Seq.{take-add}
use Rattle.std.proofs.lemmas.Grind.{flat_map-append}
use Rattle.std.proofs.lemmas.List.{length-append, length-drop, drop-drop}
use Rattle.std.proofs.lemmas.List.Elements.{All-append, All-cons, All-nil}
use Rattle.day_file.specs.Frames.{PlacedBody, frame_of, spelling, IsShort, IsTruncatedAt, IsWhole, StandAt, StandsFrom}
use Rattle.day_file.proofs.Readings.{AreShort, IsReading, IsReading-truncated, IsReading-whole, head_short, tail_short}

-- ---- frames at another place

-- frames with these bodies, of which the first stands at this place
abbrev pub placed : ℕ → List PlacedBody → List PlacedBody
placed place [] = []
placed place (x ∷ xs) = record { place = place; body = x.body } ∷ placed (place + length (frame_of x.body)) xs

stands_placed : (place : ℕ) (xs : List PlacedBody) → AreShort xs → StandsFrom place (placed place xs) (spelling xs)
stands_placed place [] h = record { places = tt; short = All-nil _; whole = refl }
stands_placed place (x ∷ xs) h = search (arith, tail_short, All-cons, head_short, stands_placed (place + length (frame_of x.body)) xs (tail_short x xs h))

-- the frames of whole frames, of which the first stands at this place
pub stands_from : (start : ℕ) (bytes : List ℕ) → (w : IsWhole bytes) → StandsFrom start (placed start w.0) bytes
stands_from start bytes w = rw w.1.whole (stands_placed start w.0 w.1.short)

-- what the frames of bytes and their end say is one reading
pub reading_of : (place : ℕ) (bytes : List ℕ) (frames : List PlacedBody) (truncated : Option ℕ) →
    ((all : List PlacedBody) → StandsFrom place all bytes → frames ≡ all)
    → ((count : ℕ) → IsTruncatedAt bytes count → StandsFrom place frames (take count bytes))
    → MatchOption truncated (IsWhole bytes) (λ end. (count : ℕ) × (end ≡ place + count) × IsTruncatedAt bytes count)
    → (rest : List ℕ) × IsReading place bytes frames rest
reading_of place bytes frames None whole cut w =
    let all = stands_from place bytes w in ([], IsReading-whole (rw (whole (placed place w.0) all) all))
reading_of place bytes frames (Some at) whole cut end = (drop end.0 bytes, IsReading-truncated end.2 (cut end.0 end.2))

pub IsWhole-spelling : (xs : List PlacedBody) → AreShort xs → IsWhole (spelling xs)
IsWhole-spelling xs h = (placed 0 xs, stands_placed 0 xs h)

-- ---- frames joined

pub spelling-append : (xs ys : List PlacedBody) → spelling (xs ++ ys) ≡ spelling xs ++ spelling ys
spelling-append xs ys = flat_map-append (λ frame. frame_of frame.body) xs ys

-- frames that follow others stand where those end
StandAt-append : (place : ℕ) (xs ys : List PlacedBody) → StandAt place xs → StandAt (place + length (spelling xs)) ys → StandAt place (xs ++ ys)
StandAt-append place [] ys p q = subst (λ n. StandAt n ys) (omega arith) q
StandAt-append place (x ∷ xs) ys p q =
    let n = length-append (frame_of x.body) (spelling xs) in
    (p.0, StandAt-append (place + length (frame_of x.body)) xs ys p.1 (subst (λ k. StandAt k ys) (omega arith) q))

-- frames, and then frames that stand where those end
pub StandsFrom-append : (start : ℕ) (xs ys : List PlacedBody) (bytes more : List ℕ) → StandsFrom start xs bytes → StandsFrom (start + length bytes) ys more
    → StandsFrom start (xs ++ ys) (bytes ++ more)
StandsFrom-append start xs ys bytes more p q = record {
  places = StandAt-append start xs ys p.places (subst (λ n. StandAt (start + n) ys) (ap length p.whole) q.places);
  short = All-append (λ frame. IsShort frame.body) xs ys p.short q.short;
  whole = ap₂ ◌++◌ p.whole q.whole ∙ sym (spelling-append xs ys);
}

pub IsWhole-nil : IsWhole []
IsWhole-nil = ([], record { places = tt; short = All-nil _; whole = refl })

-- whole frames and then whole frames are whole frames
pub IsWhole-append : (xs ys : List ℕ) → IsWhole xs → IsWhole ys → IsWhole (xs ++ ys)
IsWhole-append xs ys p q =
    rw (p.1.whole, q.1.whole, ← spelling-append)
    (IsWhole-spelling (p.0 ++ q.0) (All-append (λ frame. IsShort frame.body) p.0 q.0 p.1.short q.1.short))

-- the same of a place, and what comes behind it
pub IsWhole-further : (start n : ℕ) (bytes : List ℕ) → IsWhole (take start bytes) → IsWhole (take n (drop start bytes)) → IsWhole (take (start + n) bytes)
IsWhole-further start n bytes p q = subst IsWhole (sym (take-add start n bytes)) (IsWhole-append (take start bytes) (take n (drop start bytes)) p q)

-- what is truncated after whole frames is truncated
pub truncated_later : (bytes : List ℕ) (start place : ℕ) → IsWhole (take start bytes) → IsTruncatedAt (drop start bytes) place
    → IsTruncatedAt bytes (start + place)
truncated_later bytes start place w t = grind (arith, IsWhole-further, length-drop, drop-drop)
