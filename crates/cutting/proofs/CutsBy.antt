-- The one cut of bytes by a target: with a run more at its head or at its end, and how long its runs are.
use Rattle.std.proofs.Common.{◌≡◌, ℕ, ◌+◌, ◌-◌, ◌<◌, ◌≤◌, List, [], ◌∷◌, ◌++◌, length, take, drop, All, refl, sym, ap, ◌∙◌, subst}
use Rattle.std.proofs.Common.{append_assoc, arith, get_or}
use Rattle.std.proofs.Math.Seq.{drop-append_seam, take-append_seam, take-length}
use Rattle.std.specs.List.{concat}
use Rattle.std.proofs.lemmas.List.{append-nil, drop_all, drop_at, drop-drop, length-append, length-drop, length-take, length-take-le, take_at, take-append-drop}
use Rattle.std.proofs.lemmas.List.{take-take, take_more}
use Rattle.std.proofs.lemmas.List.Elements.{All-cons, All-nil, All-tail, All-take}
use Rattle.std.proofs.lemmas.Result.{err_from_is_err_and}
use Rattle.base.proofs.Lists.{length-concat_push}
use Rattle.day_file.specs.declared.frame.TheConstants.{LONGEST_FRAME}
use Rattle.day_file.specs.Frames.{PlacedBody, spelling, IsShort, IsWhole}
use Rattle.cutting.specs.Cutting.{HasNoShorter, IsCutBy, IsFirstRun, but_last}
use Rattle.day_file.specs.Cuts.{IsRun}
use Rattle.cutting.specs.Feeding.{IsFullRun}
use Rattle.day_file.proofs.Joined.{IsWhole-further, IsWhole-nil, IsWhole-spelling, spelling-append}
use Rattle.day_file.proofs.Readings.{AreShort, length-spelling}

-- ---- all runs but the last

pub but_last_more : (first : List ℕ) (runs : List (List ℕ)) → 0 < length runs → but_last (first ∷ runs) ≡ first ∷ but_last runs
but_last_more first runs h = grind arith

pub but_last_push : (runs : List (List ℕ)) (last : List ℕ) → but_last (runs ++ last ∷ []) ≡ runs
but_last_push runs last =
    let n : length (runs ++ last ∷ []) - 1 ≡ length runs = omega (arith, length-append runs (last ∷ [])) in
    ap (λ k. take k (runs ++ last ∷ [])) n ∙ take-append_seam runs (last ∷ [])

abbrev IsFull : ℕ → List ℕ → Type 0
IsFull target run = target ≤ length run

full_more : (target : ℕ) (run : List ℕ) (runs : List (List ℕ)) → (0 < length runs → target ≤ length run) → All (IsFull target) (but_last runs)
    → All (IsFull target) (but_last (run ∷ runs))
full_more target run [] h a = All-nil _
full_more target run (next ∷ runs) h a = rw (but_last_more run (next ∷ runs) (omega arith)) (All-cons (IsFull target) run _ (h (omega arith)) a)

full_first : (target : ℕ) (run : List ℕ) (runs : List (List ℕ)) → All (IsFull target) (but_last (run ∷ runs))
    → (0 < length runs → target ≤ length run) × All (IsFull target) (but_last runs)
full_first target run [] a = (λ h. absurd (omega (arith, h)), All-nil _)
full_first target run (next ∷ runs) a =
    let b = subst (All (IsFull target)) (but_last_more run (next ∷ runs) (omega arith)) a in
    (λ _. b 0 run (omega arith), All-tail (IsFull target) run (but_last (next ∷ runs)) b)

-- ---- the first run of a cut

pub some_runs : (runs : List (List ℕ)) → 0 < length (concat runs) → 0 < length runs
some_runs [] h = absurd (omega (arith, h))
some_runs (run ∷ runs) h = omega arith

pub some_bytes : (runs : List (List ℕ)) → All IsRun runs → 0 < length runs → 0 < length (concat runs)
some_bytes [] each h = absurd (omega (arith, h))
some_bytes (run ∷ runs) each h = omega (arith, (each 0 run (omega arith)).some, length-append run (concat runs))

-- a run at the head of bytes
first_is : (target : ℕ) (run more bytes : List ℕ) → bytes ≡ run ++ more → IsRun run → HasNoShorter target run → (0 < length more → target ≤ length run)
    → IsFirstRun target (length run) bytes
first_is target run more bytes e is shortest full =
    let front : take (length run) bytes ≡ run = rw e (take-append_seam run more) in
    let n = ap length e ∙ length-append run more in
    record { within = omega (arith, n); run = rw front is; shortest = rw front shortest; full = λ h. full (omega (arith, n, h)) }

-- with one run more at its head
pub cut_more : (target : ℕ) (run more : List ℕ) (runs : List (List ℕ)) → IsRun run → HasNoShorter target run → (0 < length more → target ≤ length run)
    → IsCutBy target runs more → IsCutBy target (run ∷ runs) (run ++ more)
cut_more target run more runs is shortest full c = record {
  cut = record { each = All-cons IsRun run runs is c.cut.each; joined = ap (λ l. run ++ l) c.cut.joined };
  shortest = All-cons (HasNoShorter target) run runs shortest c.shortest;
  full = full_more target run runs (λ h. full (omega (arith, ap length c.cut.joined, some_bytes runs c.cut.each h))) c.full;
}

-- full runs, and then a cut of what is behind them
pub cut_after : (target : ℕ) (full runs : List (List ℕ)) (rest : List ℕ) → All (IsFullRun target) full → IsCutBy target runs rest
    → IsCutBy target (full ++ runs) (concat full ++ rest)
cut_after target [] runs rest h c = c
cut_after target (run ∷ full) runs rest h c =
    let first : IsFullRun target run = h 0 run (omega arith) in
    rw append_assoc (cut_more target run (concat full ++ rest) (full ++ runs) first.run first.shortest (λ _. first.full)
    (cut_after target full runs rest (All-tail (IsFullRun target) run full h) c))

pub cut_none : (target : ℕ) → IsCutBy target [] []
cut_none target = record { cut = record { each = All-nil _; joined = refl }; shortest = All-nil _; full = All-nil _ }

-- the first run of a cut, and the cut of what it leaves
cut_first : (target : ℕ) (run : List ℕ) (runs : List (List ℕ)) (bytes : List ℕ) → IsCutBy target (run ∷ runs) bytes
    → IsFirstRun target (length run) bytes × IsCutBy target runs (concat runs)
cut_first target run runs bytes c =
    let full = full_first target run runs c.full in (
      first_is target run (concat runs) bytes c.cut.joined (c.cut.each 0 run (omega arith)) (c.shortest 0 run (omega arith)) (λ h. full.0 (some_runs runs h)),
      record {
        cut = record { each = All-tail IsRun run runs c.cut.each; joined = refl };
        shortest = All-tail (HasNoShorter target) run runs c.shortest;
        full = full.1;
      },
    )

-- ---- one cut

not_shorter : (target m n : ℕ) (bytes : List ℕ) → IsFirstRun target m bytes → IsFirstRun target n bytes → ¬ (m < n)
not_shorter target m n bytes p q less =
    let long : length (take n bytes) ≡ n = length-take-le n bytes q.within in
    let same : take m (take n bytes) ≡ take m bytes = take-take m n bytes (omega (arith, less)) in
    let below = q.shortest m (omega (arith, less, long)) (subst IsWhole (sym same) p.run.whole) in
    omega (arith, below, p.full (omega (arith, less, q.within)))

pub first_runs_are_one : (target m n : ℕ) (bytes : List ℕ) → IsFirstRun target m bytes → IsFirstRun target n bytes → m ≡ n
first_runs_are_one target m n bytes p q = omega (arith, not_shorter target m n bytes p q, not_shorter target n m bytes q p)

-- the first run of bytes is the first of each cut of them
pub peeled : (target n : ℕ) (runs : List (List ℕ)) (bytes : List ℕ) → IsFirstRun target n bytes → IsCutBy target runs bytes
    → (rest : List (List ℕ)) × (runs ≡ take n bytes ∷ rest) × IsCutBy target rest (drop n bytes)
peeled target n [] bytes f c = absurd (omega (arith, f.run.some, length-take n bytes, ap length c.cut.joined))
peeled target n (run ∷ runs) bytes f c =
    let first = cut_first target run runs bytes c in
    let e = first_runs_are_one target (length run) n bytes first.0 f in
    let front : take n bytes ≡ run = rw c.cut.joined (take_at run (concat runs) n e) in
    let back : drop n bytes ≡ concat runs = rw c.cut.joined (drop_at run (concat runs) n e) in
    (runs, ap (λ x. x ∷ runs) (sym front), rw back first.1)

pub cut_of_none : (target : ℕ) (runs : List (List ℕ)) (bytes : List ℕ) → length bytes ≤ 0 → IsCutBy target runs bytes → runs ≡ []
cut_of_none target [] bytes none c = refl
cut_of_none target (run ∷ runs) bytes none c = absurd (omega (arith, some_bytes (run ∷ runs) c.cut.each (omega arith), ap length c.cut.joined))

pub cuts_are_one : (target : ℕ) (some others : List (List ℕ)) (bytes : List ℕ) → IsCutBy target some bytes → IsCutBy target others bytes → some ≡ others
cuts_are_one target [] others bytes p q = sym (cut_of_none target others bytes (omega (arith, ap length p.cut.joined)) q)
cuts_are_one target (x ∷ xs) others bytes p q =
    let first = cut_first target x xs bytes p in
    let other = peeled target (length x) others bytes first.0 q in
    let front : take (length x) bytes ≡ x = rw p.cut.joined (take-append_seam x (concat xs)) in
    let back : drop (length x) bytes ≡ concat xs = rw p.cut.joined (drop-append_seam x (concat xs)) in
    rw (other.1, front) (ap (λ l. x ∷ l) (cuts_are_one target xs other.0 (concat xs) first.1 (rw back at other.2)))

-- ---- a cut as the loops make it

-- the bytes before this place are whole frames, and these are their runs: with those of any cut behind them they are a cut
pub record Begun (target start : ℕ) (front : List (List ℕ)) (bytes : List ℕ) : Type 0 where
  pub within : start ≤ length bytes
  pub whole : IsWhole (take start bytes)
  pub made : length (concat front) ≡ start
  pub cut : (rest : List (List ℕ)) → IsCutBy target rest (drop start bytes) → IsCutBy target (front ++ rest) bytes

pub Begun-none : (target : ℕ) (bytes : List ℕ) → Begun target 0 [] bytes
Begun-none target bytes = record { within = omega arith; whole = IsWhole-nil; made = refl; cut = λ rest c. c }

pub Begun-more : {target start n : ℕ} {front : List (List ℕ)} {bytes : List ℕ} → Begun target start front bytes → IsFirstRun target n (drop start bytes)
    → Begun target (start + n) (front ++ take n (drop start bytes) ∷ []) bytes
Begun-more {target} {start} {n} {front} {bytes} b f =
    let tail = drop start bytes in
    let run = take n tail in
    let full : 0 < length (drop n tail) → target ≤ length run = λ h. omega
    (arith, f.full (omega (arith, h, length-drop n tail)), length-take-le n tail f.within) in
    record {
      within = omega (arith, f.within, length-drop start bytes, b.within);
      whole = IsWhole-further start n bytes b.whole f.run.whole;
      made = omega (arith, length-concat_push front run, length-take-le n tail f.within, b.made);
      cut = λ rest c. (let more = cut_more target run (drop n tail) rest f.run f.shortest full (rw drop-drop c) in
          rw append_assoc (b.cut (run ∷ rest) (rw take-append-drop at more)));
    }

pub Begun-all : {target start : ℕ} {front : List (List ℕ)} {bytes : List ℕ} → Begun target start front bytes → length bytes ≤ start → IsCutBy target front bytes
Begun-all {target} {start} {front} {bytes} b h = rw append-nil at (b.cut [] (rw (drop_all start bytes h) (cut_none target)))

pub ruleset begun = (Begun-none, peeled, length-append, err_from_is_err_and)

-- ---- how long a run is

run_bound : (target : ℕ) (run : List ℕ) (frames : List PlacedBody) → AreShort frames → run ≡ spelling frames → 0 < length run → HasNoShorter target run
    → length run < target + LONGEST_FRAME
run_bound target run [] short e some s = absurd (omega (arith, ap length e, some))
run_bound target run (x ∷ xs) short e some s =
    let front = take (length xs) (x ∷ xs) in
    let last = get_or (x ∷ xs) (length xs) x in
    let size : length (x ∷ xs) ≡ length xs + 1 = omega arith in
    let parts : x ∷ xs ≡ front ++ last ∷ [] =
    sym (take-length (x ∷ xs)) ∙ ap (λ k. take k (x ∷ xs)) size ∙ take_more (x ∷ xs) (length xs) x (omega arith) in
    let split = e ∙ ap spelling parts ∙ spelling-append front (last ∷ []) in
    let n = ap length split ∙ length-append (spelling front) (spelling (last ∷ [])) in
    let before : take (length (spelling front)) run ≡ spelling front = rw split (take-append_seam (spelling front) (spelling (last ∷ []))) in
    let whole = IsWhole-spelling front (All-take (λ frame. IsShort frame.body) (length xs) (x ∷ xs) short) in
    let below = s (length (spelling front)) (omega (arith, n, length-spelling last [])) (rw before whole) in
    omega (arith, below, n, length-spelling last [], short (length xs) x (omega arith))

pub runs_bound : (target : ℕ) (runs : List (List ℕ)) (bytes : List ℕ) → IsCutBy target runs bytes → All (λ run. length run < target + LONGEST_FRAME) runs
runs_bound target runs bytes c = λ k d h. let r = c.cut.each k d h in run_bound target _ r.whole.0 r.whole.1.short r.whole.1.whole r.some (c.shortest k d h)
