-- Frames that are read are picked, and what the others give is nothing.
use Rattle.std.proofs.Common.{◌≡◌, ℕ, ◌+◌, ◌<◌, ◌≤◌, Bool, true, false, cond, is_some, List, [], ◌∷◌, ◌++◌, Option, None, filter, filter_map, length}
use Rattle.std.proofs.Common.{◌-◌, ◌^◌, zero, suc, map, ◌⊎◌, take, drop, set, get_or, Result, Ok, Err, OnErr, refl, sym, ap, ap₂, ◌∙◌, subst, arith, inl, inr}
use mir.Val.{bool_byte}
use Rattle.std.proofs.lemmas.List.{append-nil, append_assoc, length-append, length-set, map-append, take-append-drop, take-set, take_at}
use Rattle.std.proofs.lemmas.List.{take_more, take_more_set}
use Rattle.std.proofs.lemmas.List.Elements.{filter-append}
use Rattle.itch_messages.specs.Body.{kind_of, message_of}
use Rattle.itch_messages.specs.Layout.{length_of}
use Rattle.day_file.specs.declared.frame.Frame.{Frame}
use Rattle.day_file.specs.Frames.{PlacedBody, spelling}
use Rattle.day_file.specs.Placed.{placed_body}
use Rattle.day_file.proofs.Joined.{spelling-append}
use Rattle.day_file.proofs.Readings.{length-spelling}
use Rattle.day_rows.specs.DayRows.{rows_of}
use Rattle.day_rows.specs.Messages.{counted, placed_at}
use Rattle.base.specs.Least.{least_by}
use Rattle.base.specs.declared.limits.TheConstants.{LONGEST_FILE}
use Rattle.morsel_rows.specs.Partitions.{in_partitions}
use Rattle.scanning.specs.Scans.{AreTakenIn, ScanView, TakesIn, scan_of, wrong_at}
use Rattle.scanning.specs.declared.open_scan.TheConstants.{FRAMES_AT_ONCE}
use Rattle.scanning.specs.declared.wrong.WrongLength.{WrongLength}

-- ---- frames taken in

-- the frames, with their places
abbrev pub bodies : List Frame → List PlacedBody
bodies frames = map placed_body frames

-- of frames, the first ones were taken in
abbrev pub AreSomeTakenIn : Option ℕ → List PlacedBody → ScanView → ScanView → Type 0
AreSomeTakenIn as_of frames old new = (walked : ℕ) × AreTakenIn as_of frames 0 walked old new

some_are : (as_of : Option ℕ) (front rest : List PlacedBody) {frames : List PlacedBody} {old new : ScanView} → frames ≡ front ++ rest
    → TakesIn as_of front old new → AreSomeTakenIn as_of frames old new
some_are as_of front rest split takes =
    (length (spelling front), record { front = front; rest = rest; split = split; walked_is = refl; takes = takes; ends = λ h. absurd (omega arith) })

-- so many of the frames are left as they were, or none is, since they were taken in
abbrev pub AreTaken : Option ℕ → List Frame → ℕ → ℕ → ScanView → ScanView → Type 0
AreTaken as_of frames count left old new = ((left ≡ count) × (new ≡ old)) ⊎ ((left ≡ 0) × TakesIn as_of (bodies (take count frames)) old new)

pub takes_more : (as_of : Option ℕ) (xs ys : List PlacedBody) (old scan new : ScanView) → TakesIn as_of xs old scan → TakesIn as_of ys scan new
    → TakesIn as_of (xs ++ ys) old new
takes_more as_of xs ys old scan new p q n frames some most is = grind (arith, append_assoc)

-- ---- frames that are read

abbrev pub reads : PlacedBody → Bool
reads frame = is_some (length_of (kind_of frame.body))

filter_map_of_filter : {X Y : Type 0} (h : X → Option Y) (q : X → Bool) → ((x : X) → q x ≡ false → h x ≡ None) → (xs : List X)
    → filter_map h (filter q xs) ≡ filter_map h xs
filter_map_of_filter h q none [] = refl
filter_map_of_filter h q none (x ∷ xs) = let here = none x in let more = filter_map_of_filter h q none xs in grind arith

-- a frame that isn't read is no message, and its length isn't wrong: so a scan of those that are read is one of all
scan_of_read : (n : ℕ) (as_of : Option ℕ) (frames : List PlacedBody) → scan_of n as_of (filter reads frames) ≡ scan_of n as_of frames
scan_of_read n as_of frames =
    let messages = filter_map_of_filter (λ f. placed_at f.place (message_of f.body)) reads (λ f unread. grind arith) frames in
    let wrong = filter_map_of_filter wrong_at reads (λ f unread. grind arith) frames in
    λ i. record { rows = in_partitions n (rows_of (counted as_of (messages i))); wrong = least_by (λ (w : WrongLength). w.place) (wrong i) }

takes_same : (as_of : Option ℕ) (xs ys : List PlacedBody) (old new : ScanView) → filter reads xs ≡ filter reads ys → TakesIn as_of xs old new
    → TakesIn as_of ys old new
takes_same as_of xs ys old new e takes n frames some most is =
    takes n frames some most is ∙ sym (scan_of_read n as_of (frames ++ xs))
    ∙ ap (scan_of n as_of) (filter-append reads frames xs ∙ ap (λ l. filter reads frames ++ l) e ∙ sym (filter-append reads frames ys))
    ∙ scan_of_read n as_of (frames ++ ys)

-- the first of those that pass are what passes of the first
first_of_filter : {X : Type 0} (q : X → Bool) (xs : List X) (k : ℕ) → (n : ℕ) × (filter q (take n xs) ≡ take k (filter q xs))
first_of_filter q xs zero = (0, refl)
first_of_filter q [] (suc k) = (0, refl)
first_of_filter q (x ∷ xs) (suc k) =
    let one = first_of_filter q xs k in
    let none = first_of_filter q xs (suc k) in
    let more : (n : ℕ) × (filter q (x ∷ take n xs) ≡ take (suc k) (filter q (x ∷ xs))) =
    elim (q x) as (λ b. (n : ℕ) × (cond b (x ∷ filter q (take n xs)) (filter q (take n xs)) ≡ take (suc k) (cond b (x ∷ filter q xs) (filter q xs))))
    [ true ↦ (one.0, ap (λ l. x ∷ l) one.1) | false ↦ none ] in
    (suc more.0, more.1)

-- ---- the loop that picks

-- the frames before those that are left are done: some are taken in, and with those that are picked they give what all that are done give
pub record IsPicking (as_of : Option ℕ) (all left : List PlacedBody) (walked count : ℕ) (picked : List Frame) (old new : ScanView) : Type 0 where
  pub done : List PlacedBody
  pub split : all ≡ done ++ left
  pub walked_is : walked ≡ length (spelling done)
  pub front : List PlacedBody
  pub takes : TakesIn as_of front old new
  pub read_is : filter reads (front ++ bodies (take count picked)) ≡ filter reads done
  pub few : count ≤ FRAMES_AT_ONCE
  pub long : length picked ≡ FRAMES_AT_ONCE

-- a truth value as a number
pub one_if : (b : Bool) → bool_byte b ≡ cond b 1 0
one_if true = refl
one_if false = refl

-- one frame more is picked where it is read
picked_more : (room next : ℕ) (picked : List Frame) (frame : Frame) (b : Bool) → room < length picked → next ≡ room + cond b 1 0
    → bodies (take next (set picked room frame)) ≡ bodies (take room picked) ++ cond b (placed_body frame ∷ []) []
picked_more room next picked frame true below e = grind (arith, take_more_set, map-append)
picked_more room next picked frame false below e = grind (arith, take-set, append-nil)

few_more : (room next : ℕ) (b : Bool) → room < FRAMES_AT_ONCE → next ≡ room + cond b 1 0 → next ≤ FRAMES_AT_ONCE
few_more room next b below e = grind arith

read_once : (frame : PlacedBody) → filter reads (cond (reads frame) (frame ∷ []) []) ≡ filter reads (frame ∷ [])
read_once frame = grind arith

pub starts_picking : (as_of : Option ℕ) (all : List PlacedBody) (picked : List Frame) (old : ScanView) → length picked ≡ FRAMES_AT_ONCE
    → IsPicking as_of all all 0 0 picked old old
starts_picking as_of all picked old long = record {
  done = [];
  split = refl;
  walked_is = refl;
  front = [];
  takes = λ n frames some most is. is ∙ ap (scan_of n as_of) (sym (append-nil frames));
  read_is = refl;
  few = omega arith;
  long = long;
}

module _ {as_of : Option ℕ} {all left : List PlacedBody} {walked count : ℕ} {picked : List Frame} {old scan : ScanView}
    (so_far : IsPicking as_of all left walked count picked old scan) (new : ScanView) where
  done_taken : TakesIn as_of (bodies (take count picked)) scan new → TakesIn as_of so_far.done old new
  done_taken takes =
      takes_same as_of (so_far.front ++ bodies (take count picked)) so_far.done old new so_far.read_is
      (takes_more as_of so_far.front (bodies (take count picked)) old scan new so_far.takes takes)

  -- all so far is taken in once what is picked is
  pub taken_all : TakesIn as_of (bodies (take count picked)) scan new → (bytes : ℕ) → (walked < bytes → left ≡ []) → AreTakenIn as_of all bytes walked old new
  taken_all takes bytes ends = grind (arith, done_taken)

  -- where memory is refused, some of it is
  pub some_taken : AreSomeTakenIn as_of (bodies (take count picked)) scan new → AreSomeTakenIn as_of all old new
  some_taken (walked, some) =
      let taken = so_far.front ++ some.front in
      let read = filter reads taken in
      let first = first_of_filter reads so_far.done (length read) in
      let parts : filter reads so_far.done ≡ read ++ filter reads some.rest =
      sym so_far.read_is ∙ ap (filter reads) (ap (λ l. so_far.front ++ l) some.split ∙ sym (append_assoc so_far.front some.front some.rest))
      ∙ filter-append reads taken some.rest in
      some_are as_of (take first.0 so_far.done) (drop first.0 so_far.done ++ left) (rw (← append_assoc, take-append-drop) so_far.split)
      (takes_same as_of taken (take first.0 so_far.done) old new
      (sym (first.1 ∙ ap (take (length read)) parts ∙ take_at read (filter reads some.rest) (length read) refl))
      (takes_more as_of so_far.front some.front old scan new so_far.takes some.takes))

  -- where there is room, what is taken in and what is picked still give what all that are done give
  with_room : (room : ℕ) → AreTaken as_of picked count room scan new
      → (front : List PlacedBody) × TakesIn as_of front old new × (filter reads (front ++ bodies (take room picked)) ≡ filter reads so_far.done)
  with_room room (inl (same, is)) = (so_far.front, rw is so_far.takes, rw same so_far.read_is)
  with_room room (inr (none, takes)) = (so_far.done, done_taken takes, rw (none, append-nil) refl)

  -- with one frame more
  pub picks_more : (room next : ℕ) (frame : Frame) (rest : List PlacedBody) → AreTaken as_of picked count room scan new → room < FRAMES_AT_ONCE
      → left ≡ placed_body frame ∷ rest → next ≡ room + cond (reads (placed_body frame)) 1 0
      → IsPicking as_of all rest (walked + (2 + length frame.body.now)) next (set picked room frame) old new
  picks_more room next frame rest taken below step next_is =
      let now = with_room room taken in
      let done = so_far.done in
      let x = placed_body frame in
      let kept = bodies (take room picked) in
      record {
        done = done ++ x ∷ [];
        split = so_far.split ∙ ap (λ l. done ++ l) step ∙ sym (append_assoc done (x ∷ []) rest);
        walked_is = omega (
          arith,
          so_far.walked_is,
          ap length (spelling-append done (x ∷ [])),
          length-append (spelling done) (spelling (x ∷ [])),
          length-spelling x [],
        );
        front = now.0;
        takes = now.1;
        read_is = ap (λ l. filter reads (now.0 ++ l)) (picked_more room next picked frame (reads x) (omega (arith, below, so_far.long)) next_is)
            ∙ ap (filter reads) (sym (append_assoc now.0 kept _)) ∙ filter-append reads (now.0 ++ kept) _ ∙ ap₂ ◌++◌ now.2 (read_once x)
            ∙ sym (filter-append reads done (x ∷ []));
        few = few_more room next (reads x) below next_is;
        long = length-set picked room frame ∙ so_far.long;
      }

-- where there is no bound that they reach, all are taken in
pub takes_all : (as_of : Option ℕ) (all : List PlacedBody) (walked : ℕ) (old new : ScanView) → AreTakenIn as_of all (2 ^ 64 - 1) walked old new
    → length (spelling all) ≤ LONGEST_FILE → TakesIn as_of all old new
takes_all as_of all walked old new taken within =
    let long = ap (λ l. length (spelling l)) taken.split ∙ ap length (spelling-append taken.front taken.rest)
    ∙ length-append (spelling taken.front) (spelling taken.rest) in
    let whole = taken.split ∙ ap (λ l. taken.front ++ l) (taken.ends (omega (arith, within, long, taken.walked_is))) ∙ append-nil taken.front in
    subst (λ l. TakesIn as_of l old new) (sym whole) taken.takes

-- ---- the loop that takes in what was picked

pub takes_next : (as_of : Option ℕ) (frames : List Frame) (i : ℕ) (d : Frame) (old scan new : ScanView) → i < length frames
    → TakesIn as_of (bodies (take i frames)) old scan → TakesIn as_of (placed_body (get_or frames i d) ∷ []) scan new
    → TakesIn as_of (bodies (take (i + 1) frames)) old new
takes_next as_of frames i d old scan new below so_far next =
    subst (λ l. TakesIn as_of l old new)
    (sym (ap bodies (take_more frames i d below) ∙ map-append placed_body (take i frames) (get_or frames i d ∷ [])))
    (takes_more as_of (bodies (take i frames)) (placed_body (get_or frames i d) ∷ []) old scan new so_far next)

pub takes_first : (as_of : Option ℕ) (frames : List Frame) (i : ℕ) (old scan new : ScanView) → TakesIn as_of (bodies (take i frames)) old scan → new ≡ scan
    → AreSomeTakenIn as_of (bodies frames) old new
takes_first as_of frames i old scan new so_far same =
    some_are as_of (bodies (take i frames)) (bodies (drop i frames))
    (sym (ap bodies (take-append-drop i frames)) ∙ map-append placed_body (take i frames) (drop i frames))
    (subst (λ s. TakesIn as_of (bodies (take i frames)) old s) (sym same) so_far)

-- what holds, holds on an error
pub on_err : {X E P : Type 0} (r : Result X E) → P → OnErr r P
on_err (Ok x) p = tt
on_err (Err e) p = p

pub ruleset picking = (starts_picking, picks_more, one_if)
