-- The runs that bytes begin with: how far the loop of `first_run` has come.
use Rattle.std.proofs.Common.{◌≡◌, ℕ, suc, ◌+◌, ◌-◌, ◌<◌, ◌≤◌, List, Option, Some, None, MatchOption, [], ◌∷◌, ◌++◌, length, take, drop, sym, ap, ◌∙◌, arith}
use Rattle.std.proofs.Math.Seq.{take-length}
use Rattle.std.proofs.lemmas.List.{append_assoc, drop-drop, drop_at, length-append, length-drop, length-take-le, take-append-drop, take-take, take_at}
use Rattle.day_file.specs.Frames.{FramesLeft, PlacedBody, frame_of, spelling, IsShort, IsTruncatedAt, IsWhole, StandsFrom}
use Rattle.cutting.specs.Cutting.{IsFirstRun}
use Rattle.day_file.proofs.Joined.{IsWhole-append, IsWhole-further, reading_of, truncated_later}
use Rattle.cutting.proofs.LeftFrames.{IsWhole-between, one_frame}
use Rattle.day_file.proofs.Laws.{not_both, truncated_once}
use Rattle.day_file.proofs.Readings.{IsReading, head_apart, head_short, length-spelling, reading_head, reading_tail}

-- the bytes before this place are whole frames and fewer than the target, and these frames are left behind it
pub record Reached (target end : ℕ) (left : FramesLeft) (bytes : List ℕ) : Type 0 where
  pub within : end ≤ length bytes
  pub below : end < target
  pub whole : IsWhole (take end bytes)
  pub rest : List ℕ
  pub reads : IsReading end (drop end bytes) left.frames rest
  pub ends : MatchOption left.truncated (IsWhole bytes) (IsTruncatedAt bytes)

ends_from : (whole : ℕ) (bytes : List ℕ) (o : Option ℕ) → IsWhole (take whole bytes)
    → MatchOption o (IsWhole (drop whole bytes)) (λ end. (count : ℕ) × (end ≡ whole + count) × IsTruncatedAt (drop whole bytes) count)
    → MatchOption o (IsWhole bytes) (IsTruncatedAt bytes)
ends_from whole bytes None w told = rw take-append-drop at (IsWhole-append (take whole bytes) (drop whole bytes) w told)
ends_from whole bytes (Some end) w told = rw told.1 (truncated_later bytes whole told.0 w told.2)

-- from a place on
pub Reached-start : (target whole : ℕ) (bytes : List ℕ) (left : FramesLeft) → whole ≤ length bytes → whole < target → IsWhole (take whole bytes)
    → ((all : List PlacedBody) → StandsFrom whole all (drop whole bytes) → left.frames ≡ all)
    → ((count : ℕ) → IsTruncatedAt (drop whole bytes) count → StandsFrom whole left.frames (take count (drop whole bytes)))
    → MatchOption left.truncated (IsWhole (drop whole bytes)) (λ end. (count : ℕ) × (end ≡ whole + count) × IsTruncatedAt (drop whole bytes) count)
    → Reached target whole left bytes
Reached-start target whole bytes left within below w all truncated end =
    let r = reading_of whole (drop whole bytes) left.frames left.truncated all truncated end in
    record { within = within; below = below; whole = w; rest = r.0; reads = r.1; ends = ends_from whole bytes left.truncated w end }

-- the next frame is passed
pub Reached-more : {target end : ℕ} {left new : FramesLeft} {bytes : List ℕ} (next : ℕ) (x : PlacedBody) → Reached target end left bytes
    → left.frames ≡ x ∷ new.frames → new.truncated ≡ left.truncated → end + (2 + length x.body) < next → Reached next (end + (2 + length x.body)) new bytes
Reached-more {target} {end} {left} {new} {bytes} next x r step same below =
    let size = 2 + length x.body in
    let reads : IsReading end (drop end bytes) (x ∷ new.frames) r.rest = rw step at r.reads in
    let head = reading_head reads in
    let front : take size (drop end bytes) ≡ frame_of x.body = rw head (take_at (frame_of x.body) _ size (omega arith)) in
    let back : drop size (drop end bytes) ≡ spelling new.frames ++ r.rest = rw head (drop_at (frame_of x.body) _ size (omega arith)) in
    record {
      within = omega (arith, ap length head, length-append x.body (spelling new.frames ++ r.rest), length-drop end bytes, r.within);
      below = below;
      whole = IsWhole-further end size bytes r.whole (rw front (one_frame x.body (head_short x new.frames reads.short)));
      rest = r.rest;
      reads = rw (← drop-drop size end bytes, back) (reading_tail reads);
      ends = rw same r.ends;
    }

-- whole frames at the head of bytes that begin with a frame are as long as that frame
frame_least : (n : ℕ) (body rest bytes : List ℕ) → IsShort body → bytes ≡ frame_of body ++ rest → IsWhole (take n bytes) → 0 < n → n ≤ length bytes
    → 2 + length body ≤ n
frame_least n body rest bytes h e ([], s) some within = absurd (omega (arith, ap length s.whole, length-take-le n bytes within))
frame_least n body rest bytes h e (y ∷ ys, s) some within =
    let all = sym (append_assoc (frame_of y.body) (spelling ys) (drop n bytes)) ∙ ap (λ l. l ++ drop n bytes) (sym s.whole) ∙ take-append-drop n bytes ∙ e in
    let same = head_apart y.body body _ rest (head_short y ys s.short) h all in
    omega (arith, length-spelling y ys, ap length same.0, ap length s.whole, length-take-le n bytes within)

-- the run that ends with this frame
pub run_here : {target end : ℕ} {left new : FramesLeft} {bytes : List ℕ} (x : PlacedBody) → Reached target end left bytes
    → left.frames ≡ x ∷ new.frames → new.truncated ≡ left.truncated → target ≤ end + (2 + length x.body) → IsFirstRun target (end + (2 + length x.body)) bytes
run_here {target} {end} {left} {new} {bytes} x r step same h =
    let next = end + (2 + length x.body) in
    let more : Reached (suc next) next new bytes = Reached-more (suc next) x r step same (omega arith) in
    let taken = length-take-le next bytes more.within in
    let reads : IsReading end (drop end bytes) (x ∷ new.frames) r.rest = rw step at r.reads in
    record {
      within = more.within;
      run = record { some = omega (arith, taken); whole = more.whole };
      shortest = λ n less w.
          let within : n ≤ next = omega (arith, less, taken) in
          let never : target ≤ n → ⊥ = λ far.
          let between = IsWhole-between end n bytes (omega (arith, r.below, far)) r.whole (rw take-take at w) in
          let least = frame_least (n - end) x.body _ (drop end bytes) (head_short x new.frames reads.short) (reading_head reads) between
          (omega (arith, r.below, far)) (omega (arith, length-drop end bytes, within, more.within)) in
          omega (arith, least, less, taken, r.below, far) in
          omega (arith, never);
      full = λ _. h;
    }

-- ---- where no frame is left

module _ {target end : ℕ} {left : FramesLeft} {bytes : List ℕ} (r : Reached target end left bytes) (none : left.frames ≡ []) where
  ended : end < length bytes → IsTruncatedAt bytes end
  ended h = grind (arith, IsReading)

  -- the run that is all that is left
  pub run_of_rest : 0 < length bytes → left.truncated ≡ None → IsFirstRun target end bytes
  run_of_rest some o =
      let w : IsWhole bytes = rw o at r.ends in
      let more : ¬ (end < length bytes) = λ h. not_both bytes w.0 end w.1 (ended h) in
      let e : end ≡ length bytes = omega (arith, more, r.within) in
      let all : take end bytes ≡ bytes = rw e (take-length bytes) in
      grind (arith, not_both, ended, take-length)

  -- where the bytes are truncated
  pub place_below : {place : ℕ} → left.truncated ≡ Some place → place < target
  place_below {place} o =
      let t : IsTruncatedAt bytes place = rw o at r.ends in
      let never : target ≤ place → ⊥ = λ far. omega (arith, truncated_once bytes place end t (ended (omega (arith, t.within, r.below, far))), r.below, far) in
      omega (arith, never)
