-- Cuts at given places.
use Rattle.std.proofs.Common.{◌≡◌, ℕ, suc, ◌+◌, ◌-◌, ◌<◌, ◌≤◌, List, [], ◌∷◌, ◌++◌, length, take, drop, All, refl, sym, ap, ap₂, ◌∙◌, subst, append-nil, arith}
use Rattle.std.proofs.Math.Seq.{drop-append_seam, take-append_seam}
use Rattle.std.specs.List.{concat, slice_range}
use Rattle.std.proofs.lemmas.List.{append_assoc, drop-drop, length-append, length-drop, length-take, length-take-le}
use Rattle.std.proofs.lemmas.List.Folds.{concat-append, drop_split}
use Rattle.std.proofs.lemmas.List.Elements.{All-cons, All-nil, All-tail}
use Rattle.base.proofs.Lists.{All-parts}
use Rattle.day_file.specs.Frames.{IsWhole}
use Rattle.cutting.specs.Cutting.{AreEnds, IsCutAt, IsCutOf, IsFirstBad, IsFirstRun, but_last, ends_of}
use Rattle.day_file.specs.Cuts.{IsRun, rest_run}
use Rattle.cutting.proofs.CutsBy.{but_last_more, but_last_push, first_runs_are_one, some_runs}
use Rattle.day_file.proofs.Joined.{IsWhole-further, IsWhole-nil}
use Rattle.cutting.proofs.LeftFrames.{IsWhole-between, IsWhole-rest}

-- ---- whether an end is good

-- the run that has as many bytes as there are up to an end tells whether a frame stands there
pub end_told : (bytes : List ℕ) (start end n : ℕ) → start < end → end < length bytes → IsWhole (take start bytes)
    → IsFirstRun (end - start) n (drop start bytes) → (n ≡ end - start → IsWhole (take end bytes)) × (IsWhole (take end bytes) → n ≡ end - start)
end_told bytes start end n h inside f r =
    let size = end - start in
    let within : size ≤ length (drop start bytes) = omega (arith, h, inside, length-drop start bytes) in
    let taken : length (take size (drop start bytes)) ≡ size = length-take-le size (drop start bytes) within in (
      λ e. let m : start + n ≡ end = omega (arith, e, h) in subst (λ k. IsWhole (take k bytes)) m (IsWhole-further start n bytes f r.run.whole),
      λ w. sym (first_runs_are_one size size n (drop start bytes) (record {
        within = within;
        run = record { some = omega (arith, taken, h); whole = IsWhole-between start end bytes (omega (arith, h)) f w };
        shortest = λ m less _. omega (arith, less, taken);
        full = λ _. omega arith;
      }) r),
    )

-- ---- the loop over the ends

pub record Tried (bytes : List ℕ) (start : ℕ) (left ends : List ℕ) : Type 0 where
  pub whole : IsWhole (take start bytes)
  pub good : AreEnds bytes start left → AreEnds bytes 0 ends
  pub bad : (end : ℕ) → IsFirstBad bytes start left end → IsFirstBad bytes 0 ends end

-- ---- the runs at good ends

-- the runs from this place on that end at these places, and the rest
abbrev pub runs_at : ℕ → List ℕ → List ℕ → List (List ℕ)
runs_at start bytes [] = rest_run (drop start bytes)
runs_at start bytes (end ∷ ends) = slice_range bytes start end ∷ runs_at end bytes ends

pub concat_rest : (rest : List ℕ) → concat (rest_run rest) ≡ rest
concat_rest [] = refl
concat_rest (b ∷ rest) = append-nil (b ∷ rest)

rest_at : (start : ℕ) (rest : List ℕ) → IsWhole rest → All IsRun (rest_run rest) × (ends_of start (but_last (rest_run rest)) ≡ [])
rest_at start [] w = (All-nil _, refl)
rest_at start (b ∷ rest) w = grind (arith, All-cons, All-nil, but_last_push)

-- they are a cut of the bytes from that place on
runs_at_are : (start : ℕ) (bytes ends : List ℕ) → IsWhole bytes → IsWhole (take start bytes) → AreEnds bytes start ends
    → IsCutOf (runs_at start bytes ends) (drop start bytes) × (ends_of start (but_last (runs_at start bytes ends)) ≡ ends)
runs_at_are start bytes [] w f a =
    let rest = rest_at start (drop start bytes) (IsWhole-rest start bytes w f) in
    (record { each = rest.0; joined = sym (concat_rest (drop start bytes)) }, rest.1)
runs_at_are start bytes (end ∷ ends) w f a =
    let h : start < end = a.0 in
    let inside : end < length bytes = a.1.0 in
    let run = slice_range bytes start end in
    let runs = runs_at end bytes ends in
    let long : length run ≡ end - start = length-take-le (end - start) (drop start bytes) (omega (arith, h, inside, length-drop start bytes)) in
    let later = runs_at_are end bytes ends w a.1.1 a.2 in
    let next : start + length run ≡ end = omega (arith, long, h) in
    let is : IsRun run = record { some = omega (arith, long, h); whole = IsWhole-between start end bytes (omega (arith, h)) f a.1.1 } in (
      record {
        each = All-cons IsRun run runs is later.0.each;
        joined = drop_split bytes start end (omega (arith, h)) ∙ ap (λ l. run ++ l) later.0.joined;
      },
      ap (ends_of start) (but_last_more run runs (some_runs runs (omega (arith, ap length later.0.joined, inside, length-drop end bytes))))
          ∙ (λ i. next i ∷ ends_of (next i) (but_last runs)) ∙ ap (λ l. end ∷ l) later.1,
    )

-- a whole file, seen as other bytes that are the same
pub IsCutAt-runs : (file bytes ends : List ℕ) → bytes ≡ file → IsWhole file → AreEnds bytes 0 ends → IsCutAt ends (runs_at 0 bytes ends) file
IsCutAt-runs file bytes ends e w a =
    let r = runs_at_are 0 bytes ends (rw e w) IsWhole-nil a in rw (← e) (record { cut = r.0; at = r.1 })

length-ends_of : (start : ℕ) (runs : List (List ℕ)) → length (ends_of start runs) ≡ length runs
length-ends_of start [] = refl
length-ends_of start (run ∷ runs) = ap suc (length-ends_of (start + length run) runs)

-- how many there are
pub runs_many : (ends : List ℕ) (runs : List (List ℕ)) (bytes : List ℕ) → IsCutAt ends runs bytes → length runs - 1 ≡ length ends
runs_many ends runs bytes c = omega (arith, ap length c.at, length-ends_of 0 (but_last runs), length-take (length runs - 1) runs)

-- ---- the loop that makes the morsels

-- these runs are made, and those at these ends are left
pub record MadeAt (start : ℕ) (made : List (List ℕ)) (left ends bytes : List ℕ) : Type 0 where
  pub within : start ≤ length bytes
  pub whole : IsWhole (take start bytes)
  pub ends_are : AreEnds bytes start left
  pub split : made ++ runs_at start bytes left ≡ runs_at 0 bytes ends

pub MadeAt-more : {start end : ℕ} {made : List (List ℕ)} {later ends bytes : List ℕ} (run : List ℕ) → MadeAt start made (end ∷ later) ends bytes
    → run ≡ slice_range bytes start end → MadeAt end (made ++ run ∷ []) later ends bytes
MadeAt-more run m r = grind (arith, append_assoc)

-- what the runs that are left are
pub record AreLeft (made left : List (List ℕ)) (ends bytes : List ℕ) : Type 0 where
  pub each : All IsRun left
  pub room : length made + length left ≤ length ends + 1
  pub fits : length (concat made) + length (concat left) ≡ length bytes

pub left_at : {start : ℕ} {made : List (List ℕ)} {left ends bytes : List ℕ} → IsWhole bytes → AreEnds bytes 0 ends → MadeAt start made left ends bytes
    → AreLeft made (runs_at start bytes left) ends bytes
left_at {start} {made} {left} {ends} {bytes} w a m =
    let is = IsCutAt-runs bytes bytes ends refl w a in
    let cut = is.cut in
    let runs = runs_at start bytes left in
    let joined = cut.joined ∙ ap concat (sym m.split) ∙ concat-append made runs in
    record {
      each = (All-parts IsRun made runs (subst (All IsRun) (sym m.split) cut.each)).1;
      room = omega (arith, ap length m.split, length-append made runs, runs_many ends _ bytes is);
      fits = omega (arith, ap length joined, length-append (concat made) (concat runs));
    }

-- ---- one cut at given places

one_rest : (run : List ℕ) → 0 < length run → run ∷ [] ≡ rest_run run
one_rest [] h = absurd (omega (arith, h))
one_rest (b ∷ run) h = refl

-- runs are those at the places where they end
at_is : (start : ℕ) (bytes : List ℕ) (runs : List (List ℕ)) → All IsRun runs → drop start bytes ≡ concat runs
    → runs ≡ runs_at start bytes (ends_of start (but_last runs))
at_is start bytes [] each e = ap rest_run (sym e)
at_is start bytes (x ∷ []) each e = rw (but_last_push [] x, e, append-nil) (one_rest x (each 0 x (omega arith)).some)
at_is start bytes (x ∷ y ∷ runs) each e =
    let end = start + length x in
    let size : end - start ≡ length x = omega arith in
    let here : slice_range bytes start end ≡ x = rw (size, e) (take-append_seam x (concat (y ∷ runs))) in
    let later = sym (drop-drop (length x) start bytes) ∙ ap (drop (length x)) e ∙ drop-append_seam x (concat (y ∷ runs)) in
    rw (but_last_more x (y ∷ runs) (omega arith)) (ap₂ ◌∷◌ (sym here) (at_is end bytes (y ∷ runs) (All-tail IsRun x (y ∷ runs) each) later))

pub cuts_at_are_one : (ends : List ℕ) (some others : List (List ℕ)) (bytes : List ℕ) → IsCutAt ends some bytes → IsCutAt ends others bytes → some ≡ others
cuts_at_are_one ends some others bytes p q =
    at_is 0 bytes some p.cut.each p.cut.joined ∙ ap (runs_at 0 bytes) (p.at ∙ sym q.at) ∙ sym (at_is 0 bytes others q.cut.each q.cut.joined)
