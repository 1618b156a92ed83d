-- A file has one list of frames: what whole frames and a stuck rest say of the bytes that they make.
use Rattle.std.proofs.Common.{◌≡◌, ℕ, ◌+◌, List, [], ◌∷◌, ◌++◌, length, take, drop, All, refl, sym, ap, ap₂, ◌∙◌, subst, append_assoc, append-nil, arith}
use Rattle.std.proofs.Math.Seq.{take-append_seam, drop-append_seam}
use Rattle.std.proofs.lemmas.List.{drop_at, length-append, take-append-drop, take_at}
use Rattle.std.proofs.lemmas.List.Elements.{All-cons, All-tail}
use Rattle.byteorder.specs.Endian.{big_number}
use Rattle.byteorder.specs.Numbers.{big_number-reads_back}
use Rattle.day_file.specs.Frames.{PlacedBody, frame_of, spelling, StandAt, IsShort, StandsFrom, IsStuck, IsTruncatedAt}

-- ---- one frame at the head of bytes

-- lists whose fronts have one length have equal fronts, and equal rests
pub two_fronts : (x y more others : List ℕ) → length x ≡ length y → x ++ more ≡ y ++ others → (x ≡ y) × (more ≡ others)
two_fronts x y more others n e = (
  sym (take-append_seam x more) ∙ ap (take (length x)) e ∙ take_at y others (length x) (sym n),
  sym (drop-append_seam x more) ∙ ap (drop (length x)) e ∙ drop_at y others (length x) (sym n),
)

-- the first two bytes of a frame tell how long its body is
pub length_told : (body rest : List ℕ) → IsShort body → big_number 2 (frame_of body ++ rest) ≡ length body
length_told body rest h = big_number-reads_back 2 (length body) (body ++ rest) h

-- bytes begin with one frame at most
pub head_apart : (b c r s : List ℕ) → IsShort b → IsShort c → frame_of b ++ r ≡ frame_of c ++ s → (b ≡ c) × (r ≡ s)
head_apart b c r s hb hc e = two_fronts b c r s (sym (length_told b r hb) ∙ ap (big_number 2) e ∙ length_told c s hc) (ap (drop 2) e)

-- ---- frames, and a rest in which none stands

abbrev pub AreShort : List PlacedBody → Type 0
AreShort frames = All (λ frame. IsShort frame.body) frames

-- the bytes from this place on are these frames and a rest at whose head no frame stands
pub record IsReading (place : ℕ) (bytes : List ℕ) (frames : List PlacedBody) (rest : List ℕ) : Type 0 where
  pub places : StandAt place frames
  pub short : AreShort frames
  pub split : bytes ≡ spelling frames ++ rest
  pub stuck : IsStuck rest

pub head_short : (x : PlacedBody) (xs : List PlacedBody) → AreShort (x ∷ xs) → IsShort x.body
head_short x xs h = h 0 x (omega arith)

pub tail_short : (x : PlacedBody) (xs : List PlacedBody) → AreShort (x ∷ xs) → AreShort xs
tail_short x xs h = All-tail (λ frame. IsShort frame.body) x xs h

-- the bytes of frames, of which the first has this body
pub length-spelling : (x : PlacedBody) (xs : List PlacedBody) → length (spelling (x ∷ xs)) ≡ (length x.body + 2) + length (spelling xs)
length-spelling x xs = omega (arith, length-append (frame_of x.body) (spelling xs))

module _ {place : ℕ} {bytes : List ℕ} {x : PlacedBody} {xs : List PlacedBody} {rest : List ℕ} where
  -- the first frame of a reading, and the reading of what is behind it
  pub reading_head : IsReading place bytes (x ∷ xs) rest → bytes ≡ frame_of x.body ++ (spelling xs ++ rest)
  reading_head r = r.split ∙ append_assoc (frame_of x.body) (spelling xs) rest

  pub reading_tail : IsReading place bytes (x ∷ xs) rest → IsReading (place + (2 + length x.body)) (spelling xs ++ rest) xs rest
  reading_tail r = record {
    places = subst (λ n. StandAt n xs) (omega arith) r.places.1;
    short = tail_short x xs r.short;
    split = refl;
    stuck = r.stuck;
  }

-- the other way round
pub reading_more : {next : ℕ} {after : List ℕ} {frames : List PlacedBody} {rest : List ℕ} (place : ℕ) (bytes body : List ℕ) → bytes ≡ frame_of body ++ after
    → IsShort body → next ≡ place + (2 + length body) → IsReading next after frames rest
    → IsReading place bytes (record { place = place; body = body } ∷ frames) rest
reading_more {next} {after} {frames} {rest} place bytes body e h n r = grind (arith, All-cons, append_assoc)

-- bytes have one reading
pub same_reading : (xs ys : List PlacedBody) {place : ℕ} {bytes r s : List ℕ} → IsReading place bytes xs r → IsReading place bytes ys s → (xs ≡ ys) × (r ≡ s)
same_reading [] [] p q = (refl, sym p.split ∙ q.split)
same_reading [] (y ∷ ys) p q = absurd (p.stuck y.body _ (head_short y ys q.short) (sym p.split ∙ reading_head q))
same_reading (x ∷ xs) [] p q = absurd (q.stuck x.body _ (head_short x xs p.short) (sym q.split ∙ reading_head p))
same_reading (x ∷ xs) (y ∷ ys) p q =
    let first = head_apart x.body y.body _ _ (head_short x xs p.short) (head_short y ys q.short) (sym (reading_head p) ∙ reading_head q) in
    let later = same_reading xs ys (reading_tail p) (rw (first.0, first.1) (reading_tail q)) in
    (ap₂ ◌∷◌ (λ i. record { place = (p.places.0 ∙ sym q.places.0) i; body = first.0 i }) later.0, later.1)

-- no frame stands at the head of no bytes
pub IsStuck-nil : IsStuck []
IsStuck-nil body rest h e = absurd (cc)

-- ---- whole files and truncated ones

reading_from : {start : ℕ} {front bytes rest : List ℕ} {frames : List PlacedBody} → StandsFrom start frames front → bytes ≡ front ++ rest → IsStuck rest
    → IsReading start bytes frames rest
reading_from s e stuck = record { places = s.places; short = s.short; split = rw (← s.whole) e; stuck = stuck }

pub IsReading-whole : {start : ℕ} {bytes : List ℕ} {frames : List PlacedBody} → StandsFrom start frames bytes → IsReading start bytes frames []
IsReading-whole {start} {bytes} s = reading_from s (sym (append-nil bytes)) IsStuck-nil

pub IsReading-truncated : {start : ℕ} {bytes : List ℕ} {count : ℕ} {frames : List PlacedBody} → IsTruncatedAt bytes count
    → StandsFrom start frames (take count bytes) → IsReading start bytes frames (drop count bytes)
IsReading-truncated {start} {bytes} {count} t s = reading_from s (sym (take-append-drop count bytes)) t.stuck
