-- The cursor's walk reads the bytes, and knows how they end. Over the morsels of a cut it gives the frames of the file.
use Rattle.std.proofs.Common.{◌≡◌, ℕ, zero, suc, ◌+◌, ◌*◌, ◌/◌, ◌%◌, ◌<◌, ◌≤◌, ◌^◌, List, [], ◌∷◌, ◌++◌, length, take, drop}
use Rattle.std.proofs.Common.{Option, Some, None, MatchOption, All, flat_map, refl, sym, ap, ◌∙◌, subst, arith, append-nil, length-drop}
use Rattle.std.specs.List.{concat}
use Rattle.std.specs.Option.{option_map_or}
use Rattle.std.proofs.lemmas.Bool.Decides.{nat_tests}
use Rattle.std.proofs.lemmas.List.{length-append, take-append-drop, length-take-le}
use Rattle.std.proofs.Math.Seq.{drop-append_seam, take-append_seam}
use Rattle.std.proofs.lemmas.List.Elements.{All-drop, All-nil, All-tail}
use Rattle.byteorder.specs.Endian.{big_number}
use Rattle.day_file.specs.Cuts.{IsRun}
use Rattle.day_file.specs.Frames.{FramesLeft, PlacedBody, frame_of, spelling, StandAt, IsShort, IsStuck, StandsFor, StandsFrom, IsTruncatedAt, IsWhole}
use Rattle.day_file.specs.Kept.{numbered}
use Rattle.base.specs.Among.{AreBytes}
use Rattle.day_file.specs.Walk.{first_length, frames_of, left_of, place_if_any, walk}
use Rattle.day_file.proofs.Joined.{IsWhole-spelling, StandsFrom-append, placed, stands_from}
use Rattle.day_file.proofs.Readings.{AreShort, IsReading, IsReading-truncated, IsStuck-nil, head_short, length_told, reading_more, same_reading}
use Rattle.day_file.proofs.Laws.{not_both}

-- ---- the first frame

-- where a whole frame stands, its length is in the first two bytes, and its body follows
pub record HasFirst (bytes : List ℕ) (size : ℕ) : Type 0 where
  pub told : big_number 2 (take 2 bytes) ≡ size
  pub prefix : 2 ≤ length bytes
  pub body : size ≤ length (drop 2 bytes)

first_length-some : (bytes : List ℕ) (size : ℕ) → first_length bytes ≡ Some size → HasFirst bytes size
first_length-some bytes size e = grind (arith, nat_tests)

-- a frame tells the length of its body
first_length-frame : (body rest : List ℕ) → IsShort body → first_length (frame_of body ++ rest) ≡ Some (length body)
first_length-frame body rest h = grind (arith, length_told, length-append, nat_tests)

two_bytes : (high low n : ℕ) → high < 256 → low < 256 → high * 256 + (low * 1 + 0) ≡ n → (high ≡ n / 256 % 256) × (low ≡ n % 256) × (n < 2 ^ 16)
two_bytes high low n p q e = (omega arith, omega arith, omega arith)

-- where the cursor finds a body, a frame stands
pub frame_found : (bytes : List ℕ) (size : ℕ) → AreBytes bytes → HasFirst bytes size →
    (bytes ≡ frame_of (take size (drop 2 bytes)) ++ drop size (drop 2 bytes)) × IsShort (take size (drop 2 bytes))
frame_found [] size b h = absurd (omega (arith, h.prefix))
frame_found (high ∷ []) size b h = absurd (omega (arith, h.prefix))
frame_found (high ∷ low ∷ after) size b h =
    let n : length (take size after) ≡ size = length-take-le size after h.body in
    let p = two_bytes high low (length (take size after)) (b 0 0 (omega arith)) (b 1 0 (omega arith)) (h.told ∙ sym n) in
    let rest : after ≡ take size after ++ drop size after = sym (take-append-drop size after) in
    (λ i. p.0 i ∷ p.1 i ∷ rest i, p.2)

-- where it finds none, none stands
stuck_at : (bytes : List ℕ) → first_length bytes ≡ None → IsStuck bytes
stuck_at bytes none body rest h e = let found = ap first_length e ∙ first_length-frame body rest h in absurd (cc)

-- ---- what the walk reads

-- of bytes whose first frame is found, or isn't
reads_by : (place : ℕ) (bytes : List ℕ) (f : ℕ → List PlacedBody) (o : Option ℕ) → first_length bytes ≡ o
    → ((size : ℕ) → HasFirst bytes size → (rest : List ℕ) × IsReading place bytes (f size) rest)
    → (rest : List ℕ) × IsReading place bytes (option_map_or f o []) rest
reads_by place bytes f None e more = (bytes, record { places = tt; short = All-nil _; split = refl; stuck = stuck_at bytes e })
reads_by place bytes f (Some size) e more = more size (first_length-some bytes size e)

walk_reads_by : (most place : ℕ) (bytes : List ℕ) → length bytes ≤ most → AreBytes bytes → (rest : List ℕ) × IsReading place bytes (walk most place bytes) rest
walk_reads_by zero place [] p b = ([], record { places = tt; short = All-nil _; split = refl; stuck = IsStuck-nil })
walk_reads_by zero place (x ∷ xs) p b = absurd (omega arith)
walk_reads_by (suc most) place bytes p b =
    reads_by place bytes _ (first_length bytes) refl (λ size h.
    let after = drop 2 bytes in
    let found = frame_found bytes size b h in
    let n = length-take-le size after h.body in
    let later = walk_reads_by most (place + (2 + size)) (drop size after) (omega (arith, length-drop size after, length-drop 2 bytes, h.prefix))
    (All-drop (λ byte. byte < 256) size after (All-drop (λ byte. byte < 256) 2 bytes b)) in
    (later.0, reading_more place bytes (take size after) found.0 found.1 (omega (arith, n)) later.1))

-- the walk over bytes reads them
pub walk_reads : (place : ℕ) (bytes : List ℕ) → AreBytes bytes → (rest : List ℕ) × IsReading place bytes (walk (length bytes) place bytes) rest
walk_reads place bytes b = walk_reads_by (length bytes) place bytes (omega arith) b

-- so what a cursor still comes to is any reading of the bytes
pub left_of-reading : (place : ℕ) (bytes : List ℕ) (frames : List PlacedBody) (rest : List ℕ) → AreBytes bytes → IsReading place bytes frames rest
    → left_of place bytes ≡ record { frames = frames; truncated = place_if_any (place + length (spelling frames)) rest }
left_of-reading place bytes frames rest b r =
    let walked = walk_reads place bytes b in
    let same = (same_reading (walk (length bytes) place bytes) frames walked.1 r).0 in
    let left : drop (length (spelling frames)) bytes ≡ rest = rw r.split (drop-append_seam (spelling frames) rest) in
    grind (arith, walk_reads, same_reading, drop-append_seam)

walk_each : (most start : ℕ) (all : List PlacedBody) → length (spelling all) ≤ most → AreShort all → StandAt start all → walk most start (spelling all) ≡ all
walk_each zero start [] n h p = refl
walk_each zero start (x ∷ xs) n h p = absurd (omega arith)
walk_each (suc most) start [] n h p = refl
walk_each (suc most) start (x ∷ xs) n h p =
    let size = length x.body in
    let more = spelling xs in
    let body : take size (x.body ++ more) ≡ x.body = take-append_seam x.body more in
    let rest : drop size (x.body ++ more) ≡ more = drop-append_seam x.body more in
    let later : StandAt (start + (2 + size)) xs = subst (λ n. StandAt n xs) (omega arith) p.1 in
    ap (λ o. option_map_or (λ k. record { place = start; body = take k (x.body ++ more) } ∷ walk most (start + (2 + k)) (drop k (x.body ++ more))) o [])
    (first_length-frame x.body more (head_short x xs h)) ∙ (λ i. record { place = sym p.0 i; body = body i } ∷ walk most (start + (2 + size)) (rest i))
    ∙ ap (λ l. x ∷ l) (walk_each most (start + (2 + size)) xs (omega (arith, n, length-append x.body more)) (λ k d l. h (suc k) d (omega (arith, l))) later)

-- the walk over whole frames comes to each of them
pub walk_whole : (start : ℕ) (bytes : List ℕ) (all : List PlacedBody) → StandsFrom start all bytes → walk (length bytes) start bytes ≡ all
walk_whole start bytes all s = ap (λ l. walk (length l) start l) s.whole ∙ walk_each (length (spelling all)) start all (omega arith) s.short s.places

pub walk_truncated : (start : ℕ) (bytes : List ℕ) (count : ℕ) → AreBytes bytes → IsTruncatedAt bytes count
    → StandsFrom start (walk (length bytes) start bytes) (take count bytes)
walk_truncated start bytes count b t =
    let front = stands_from start (take count bytes) t.front in
    rw (ap (λ l. l.frames) (left_of-reading start bytes _ _ b (IsReading-truncated t front))) front

-- ---- what stands behind the frames

reading_ends : (start : ℕ) (bytes : List ℕ) (frames : List PlacedBody) (rest : List ℕ) → IsReading start bytes frames rest
    → MatchOption (place_if_any (start + length (spelling frames)) rest) (IsWhole bytes)
    (λ end. (count : ℕ) × (end ≡ start + count) × IsTruncatedAt bytes count)
reading_ends start bytes frames [] r = rw (r.split, append-nil) (IsWhole-spelling frames r.short)
reading_ends start bytes frames (x ∷ rest) r = grind (arith, take-append_seam, IsWhole-spelling, length-append, drop-append_seam)

-- the walk knows how the bytes end
pub walk_ends : (start : ℕ) (bytes : List ℕ) → AreBytes bytes →
    MatchOption (left_of start bytes).truncated (IsWhole bytes) (λ end. (count : ℕ) × (end ≡ start + count) × IsTruncatedAt bytes count)
walk_ends start bytes b =
    let r = walk_reads start bytes b in
    rw (ap (λ l. l.truncated) (left_of-reading start bytes _ _ b r.1)) (reading_ends start bytes _ r.0 r.1)

-- the frames of a walk are no longer than the bytes
pub walk_within : (start : ℕ) (bytes : List ℕ) → AreBytes bytes → length (spelling (walk (length bytes) start bytes)) ≤ length bytes
walk_within start bytes b =
    let r = walk_reads start bytes b in omega (arith, ap length r.1.split, length-append (spelling (walk (length bytes) start bytes)) r.0)

-- what is left behind the first frame is bytes
pub rest_bytes : (bytes after rest : List ℕ) (size : ℕ) → AreBytes bytes → after ≡ drop 2 bytes → rest ≡ drop size after → AreBytes rest
rest_bytes bytes after rest size b a r = rw (r, a) (All-drop (λ byte. byte < 256) size (drop 2 bytes) (All-drop (λ byte. byte < 256) 2 bytes b))

-- what is left before and after one call of `next` that found a whole frame
pub walk_next : (place size : ℕ) (bytes prefix after body rest : List ℕ) → AreBytes bytes → 2 ≤ length bytes → prefix ≡ take 2 bytes
    → after ≡ drop 2 bytes → size ≡ big_number 2 prefix → size ≤ length after → body ≡ take size after → rest ≡ drop size after → length body ≡ size
    → let left = left_of (place + (2 + length body)) rest in
    left_of place bytes ≡ record left { frames = record { place = place; body = body } ∷ left.frames }
walk_next place size bytes prefix after body rest b two p a told fits bodies rests n =
    let next = place + (2 + length body) in
    let first : HasFirst bytes size = record { told = ap (big_number 2) (sym p) ∙ sym told; prefix = two; body = rw (← a) fits } in
    let found : (bytes ≡ frame_of body ++ rest) × IsShort body =
    rw (← a, ← bodies, ← rests) at (frame_found bytes size b first) in
    let are = rest_bytes bytes after rest size b a rests in
    let later = walk_reads next rest are in
    let end : place + length (spelling (record { place = place; body = body } ∷ walk (length rest) next rest)) ≡ next + length
    (spelling (walk (length rest) next rest)) =
    omega (arith, length-append body (spelling (walk (length rest) next rest))) in
    left_of-reading place bytes _ later.0 b (reading_more place bytes body found.0 found.1 refl later.1)
    ∙ (λ i. record { frames = record { place = place; body = body } ∷ walk (length rest) next rest; truncated = place_if_any (end i) later.0 })
    ∙ ap (λ (l : FramesLeft). record l { frames = record { place = place; body = body } ∷ l.frames }) (sym (left_of-reading next rest _ later.0 are later.1))

-- where no frame is left, the bytes end here, or are truncated here
pub ended_walk : (place : ℕ) (rest : List ℕ) → walk (length rest) place rest ≡ [] → (left_of place rest).truncated ≡ place_if_any place rest
ended_walk place rest none =
    ap (λ frames. let end = length (spelling frames) in place_if_any (place + end) (drop end rest)) none ∙ ap (λ n. place_if_any n rest) (omega arith)

-- bytes that are whole frames have no place where they are truncated
pub whole_has_no_end : (bytes : List ℕ) (start : ℕ) (o : Option ℕ) → IsWhole bytes
    → MatchOption o (IsWhole bytes) (λ end. (count : ℕ) × (end ≡ start + count) × IsTruncatedAt bytes count) → o ≡ None
whole_has_no_end bytes start None w told = refl
whole_has_no_end bytes start (Some end) w told = absurd (not_both bytes w.0 told.0 w.1 told.2)

-- ---- the morsels of a cut

-- the frames of whole frames, of which the first stands at this place, are those that the walk comes to
pub walk_stands : (start : ℕ) (bytes : List ℕ) → IsWhole bytes → StandsFrom start (walk (length bytes) start bytes) bytes
walk_stands start bytes w = let all = stands_from start bytes w in rw (walk_whole start bytes (placed start w.0) all) all

-- runs from this place on, numbered from this number on
pub frames_of_runs : (number start : ℕ) (runs : List (List ℕ)) → All IsRun runs
    → StandsFrom start (flat_map frames_of (numbered number start runs)) (concat runs)
frames_of_runs number start [] each = record { places = tt; short = All-nil _; whole = refl }
frames_of_runs number start (run ∷ runs) each =
    StandsFrom-append start (walk (length run) start run) (flat_map frames_of (numbered (number + 1) (start + length run) runs)) run (concat runs)
    (walk_stands start run (each 0 run (omega arith)).whole)
    (frames_of_runs (number + 1) (start + length run) runs (All-tail IsRun run runs each))

pub frames_of_cut : (runs : List (List ℕ)) → All IsRun runs → StandsFor (flat_map frames_of (numbered 0 0 runs)) (concat runs)
frames_of_cut runs each = frames_of_runs 0 0 runs each

pub ruleset walking = (walk_next, rest_bytes)
