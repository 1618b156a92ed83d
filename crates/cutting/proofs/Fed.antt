-- What was fed to a cutter, as it goes on.
use Rattle.std.proofs.Common.{◌≡◌, ℕ, ◌+◌, ◌-◌, ◌<◌, ◌≤◌, List, [], ◌∷◌, ◌++◌, length, take, drop, All, refl, sym, ap, ◌∙◌, subst, append_assoc, append-nil, ◌⊎◌}
use Rattle.std.proofs.Common.{inl, inr, Result, Ok, Err, IfOk, OnErr, arith}
use Rattle.std.proofs.Math.Seq.{take-append_seam, drop-append_seam}
use Rattle.std.specs.List.{concat}
use Rattle.std.proofs.lemmas.List.{drop-take, length-append, length-drop, length-take-le, nil_from_length, take-append-drop, take-append-le, take-take, take_at}
use Rattle.std.proofs.lemmas.List.Folds.{concat-append}
use Rattle.std.proofs.lemmas.List.Elements.{All-nil, All-push, All-tail, All-weaker}
use Rattle.base.specs.declared.limits.TheConstants.{LONGEST_FILE, MOST_MORSELS}
use Rattle.base.proofs.Lists.{All-parts, concat_push, length-concat_push}
use Rattle.day_file.specs.Frames.{IsTruncatedAt, IsWhole}
use Rattle.cutting.specs.Cutting.{IsCutBy, IsFirstRun}
use Rattle.day_file.specs.Cuts.{IsRun, rest_run}
use Rattle.cutting.specs.Feeding.{CutterView, HasFed, IsCutting, IsFullRun, IsTaken, fed_length}
use Rattle.cutting.proofs.CutsBy.{cut_after, cut_more, cut_none, cuts_are_one, some_bytes, some_runs}
use Rattle.day_file.proofs.Joined.{IsWhole-append, IsWhole-nil, truncated_later}
use Rattle.day_file.proofs.Laws.{not_both}

-- ---- full runs

runs_are_whole : (runs : List (List ℕ)) → All IsRun runs → IsWhole (concat runs)
runs_are_whole [] h = IsWhole-nil
runs_are_whole (run ∷ runs) h =
    let first : IsRun run = h 0 run (omega arith) in
    IsWhole-append run (concat runs) first.whole (runs_are_whole runs (All-tail IsRun run runs h))

-- full runs, and bytes behind them that are truncated
pub truncated_after_full : (target : ℕ) (full : List (List ℕ)) (rest : List ℕ) (place : ℕ) → All (IsFullRun target) full → IsTruncatedAt rest place
    → IsTruncatedAt (concat full ++ rest) (length (concat full) + place)
truncated_after_full target full rest place h t =
    let whole = runs_are_whole full (All-weaker (IsFullRun target) IsRun (λ run r. r.run) full h) in
    truncated_later (concat full ++ rest) (length (concat full)) place (rw take-append_seam whole) (rw drop-append_seam t)

-- whole frames that are shorter than the target are their own cut
cut_of_rest : (target : ℕ) (rest : List ℕ) → IsWhole rest → length rest < target → IsCutBy target (rest_run rest) rest
cut_of_rest target [] w below = cut_none target
cut_of_rest target (b ∷ rest) w below = grind (arith, append-nil, cut_more, cut_none)

-- ---- what was fed

-- of what was fed there is a cut of few runs
abbrev pub HasFew : ℕ → List ℕ → Type 0
HasFew target fed = (runs : List (List ℕ)) × IsCutBy target runs fed × (length runs ≤ MOST_MORSELS)

-- the runs that are left in the end: those of the cut, and the rest as one more
pub record IsLast (cutter : CutterView) (fed : List ℕ) : Type 0 where
  pub whole : IsWhole cutter.rest
  pub runs : IsCutBy cutter.target (cutter.cut ++ rest_run cutter.rest) fed
  pub few : length cutter.cut + length (rest_run cutter.rest) ≤ MOST_MORSELS

module _ (v : CutterView) (fed : List ℕ) (h : HasFed v fed) where
  -- all full runs are kept, while there is room
  all_kept : v.past ≡ 0 → v.cut ++ h.beyond ≡ v.cut
  all_kept e =
      let each = All-weaker (IsFullRun v.target) IsRun (λ run r. r.run) h.beyond (All-parts (IsFullRun v.target) v.cut h.beyond h.full).1 in
      let none : ¬ (0 < length h.beyond) = λ p. omega (arith, some_bytes h.beyond each p, h.past, e) in
      ap (λ l. v.cut ++ l) (nil_from_length h.beyond (omega (arith, none))) ∙ append-nil v.cut

  pub kept_alone : v.past ≡ 0 → All (IsFullRun v.target) v.cut × (fed ≡ concat v.cut ++ v.rest)
  kept_alone e = (subst (All (IsFullRun v.target)) (all_kept e) h.full, subst (λ l. fed ≡ concat l ++ v.rest) (all_kept e) h.joined)

  -- how many bytes stand before the rest
  fed_before : length (concat (v.cut ++ h.beyond)) ≡ length (concat v.cut) + v.past
  fed_before = omega (arith, ap length (concat-append v.cut h.beyond), length-append (concat v.cut) (concat h.beyond), h.past)

  pub fed_length_is : fed_length v ≡ length fed
  fed_length_is = omega (arith, fed_before, ap length h.joined, length-append (concat (v.cut ++ h.beyond)) v.rest)

  -- where the rest is truncated, what was fed is
  pub fed_truncated : (place : ℕ) → IsTruncatedAt v.rest place → IsTruncatedAt fed ((length (concat v.cut) + v.past) + place)
  fed_truncated place t =
      subst (λ n. IsTruncatedAt fed (n + place)) fed_before
      (subst (λ l. IsTruncatedAt l (length (concat (v.cut ++ h.beyond)) + place)) (sym h.joined)
      (truncated_after_full v.target (v.cut ++ h.beyond) v.rest place h.full t))

  -- the full runs, and those of the rest, are the cut of what was fed
  fed_cut : (runs : List (List ℕ)) → IsCutBy v.target runs v.rest → IsCutBy v.target ((v.cut ++ h.beyond) ++ runs) fed
  fed_cut runs c =
      subst (IsCutBy v.target ((v.cut ++ h.beyond) ++ runs)) (sym h.joined) (cut_after v.target (v.cut ++ h.beyond) runs v.rest h.full c)

  counted : (runs : List (List ℕ)) → length ((v.cut ++ h.beyond) ++ runs) ≡ (length v.cut + length h.beyond) + length runs
  counted runs = omega (arith, length-append (v.cut ++ h.beyond) runs, length-append v.cut h.beyond)

  pub too_many_runs : (runs : List (List ℕ)) → IsCutBy v.target runs v.rest → (0 < v.past) ⊎ (MOST_MORSELS < length v.cut + length runs)
      → (all : List (List ℕ)) × IsCutBy v.target all fed × (MOST_MORSELS < length all)
  too_many_runs runs c (inl p) =
      ((v.cut ++ h.beyond) ++ runs, fed_cut runs c, omega (arith, counted runs, h.most p, some_runs h.beyond (omega (arith, p, h.past))))
  too_many_runs runs c (inr many) = ((v.cut ++ h.beyond) ++ runs, fed_cut runs c, omega (arith, counted runs, many))

  pub few_runs : (runs : List (List ℕ)) → IsCutBy v.target runs v.rest → v.past ≤ 0 → length v.cut + length runs ≤ MOST_MORSELS → HasFew v.target fed
  few_runs runs c none few =
      let same = ap length (all_kept (omega (arith, none))) in
      ((v.cut ++ h.beyond) ++ runs, fed_cut runs c, omega (arith, counted runs, length-append v.cut h.beyond, same, few))

  -- where there are few runs, no frame of what was fed is cut short
  pub end_of : (IsWhole v.rest × (length v.rest < v.target)) ⊎ ((place : ℕ) × IsTruncatedAt v.rest place) → HasFew v.target fed → IsLast v fed
  end_of (inr t) few =
      let w : IsWhole fed = rw few.1.cut.joined (runs_are_whole few.0 few.1.cut.each) in absurd (not_both fed w.0 _ w.1 (fed_truncated t.0 t.1))
  end_of (inl r) few =
      let last = rest_run v.rest in
      let all = fed_cut last (cut_of_rest v.target v.rest r.0 r.1) in
      let one = cuts_are_one v.target few.0 ((v.cut ++ h.beyond) ++ last) fed few.1 all in
      let n : (length v.cut + length h.beyond) + length last ≤ MOST_MORSELS = omega (arith, few.2, ap length one, counted last) in
      let some : ¬ (0 < v.past) = λ p. omega (arith, h.most p, some_runs h.beyond (omega (arith, p, h.past)), n) in
      let kept = all_kept (omega (arith, some)) in
      record { whole = r.0; runs = subst (λ l. IsCutBy v.target (l ++ last) fed) kept all; few = omega (arith, n) }

-- ---- a run is taken off the head of the rest

module _ (v : CutterView) (end : ℕ) (f : IsFirstRun v.target end v.rest) (h : v.target ≤ end) where
  long : length (take end v.rest) ≡ end
  long = length-take-le end v.rest f.within

  -- the full runs with one more, of which some are kept
  with_run : (fed : List ℕ) (has : HasFed v fed) (kept beyond : List (List ℕ)) (past : ℕ) → (v.cut ++ has.beyond) ++ take end v.rest ∷ [] ≡ kept ++ beyond
      → length (concat beyond) ≡ past → (0 < past → MOST_MORSELS ≤ length kept)
      → HasFed (record { target = v.target; cut = kept; past = past; rest = drop end v.rest }) fed
  with_run fed has kept beyond past all past_is most = record {
    beyond = beyond;
    full = subst (All (IsFullRun v.target)) all (All-push (IsFullRun v.target) (v.cut ++ has.beyond) (take end v.rest) has.full
        (record { run = f.run; shortest = f.shortest; full = omega (arith, h, long) }));
    past = past_is;
    most = most;
    joined = rw (← all, concat_push, append_assoc, take-append-drop) has.joined;
  }

  -- one more run is kept
  pub Taken-kept : length v.cut < MOST_MORSELS → IsTaken end v (record v { cut = v.cut ++ take end v.rest ∷ []; rest = drop end v.rest })
  Taken-kept few = record {
    fed = λ fed has.
        let some : ¬ (0 < v.past) = λ p. omega (arith, has.most p, few) in
        with_run fed has (v.cut ++ take end v.rest ∷ []) [] v.past (rw (all_kept v fed has (omega (arith, some)), append-nil) refl) (omega (arith, some))
        (λ p. absurd (some p));
    bytes = omega (arith, length-concat_push v.cut (take end v.rest), long);
    target = refl;
    rest = refl;
  }

  -- one more run is too many, and isn't kept
  pub Taken-past : MOST_MORSELS ≤ length v.cut → IsTaken end v (record v { past = v.past + end; rest = drop end v.rest })
  Taken-past most = record {
    fed = λ fed has.
        with_run fed has v.cut (has.beyond ++ take end v.rest ∷ []) (v.past + end) (append_assoc v.cut has.beyond (take end v.rest ∷ []))
        (omega (arith, length-concat_push has.beyond (take end v.rest), has.past, long)) (λ _. most);
    bytes = omega arith;
    target = refl;
    rest = refl;
  }

-- so the cutter goes on
pub Taken-cutting : (whole end : ℕ) (old new : CutterView) → IsCutting old whole → IsTaken end old new → end ≤ length old.rest → IsCutting new 0
Taken-cutting whole end old new c t h = grind (arith, IsWhole-nil, length-drop)

-- ---- the full runs are taken out

pub HasFed-rest : (target past : ℕ) (rest : List ℕ) → past ≡ 0 → HasFed (record { target = target; cut = []; past = past; rest = rest }) rest
HasFed-rest target past rest none = record { beyond = []; full = All-nil _; past = sym none; most = λ h. absurd (omega (arith, h, none)); joined = refl }

pub Cutting-rest : (v : CutterView) (whole : ℕ) → IsCutting v whole → v.past ≡ 0 → IsCutting (record v { cut = [] }) whole
Cutting-rest v whole c none =
    record { fed = v.rest; has = HasFed-rest v.target v.past v.rest none; below = c.below; within = c.within; front = c.front; bound = omega (arith, c.bound) }

-- ---- a piece is fed

pub HasFed-more : (v : CutterView) (fed piece : List ℕ) → HasFed v fed → HasFed (record v { rest = v.rest ++ piece }) (fed ++ piece)
HasFed-more v fed piece h = grind (arith, append_assoc)

-- a piece was read in, of at most `left` bytes, or refused
pub Cutting-grown : {E : Type 0} {v : CutterView} {whole : ℕ} (Gave : List ℕ → Type 0) (r : Result ℕ E) (grown : List ℕ) (left : ℕ) → IsCutting v whole
    → IfOk r (λ n. (piece : List ℕ) × Gave piece × (grown ≡ v.rest ++ piece) × (length piece ≡ n)) → IfOk r (λ n. n ≤ left) → OnErr r (grown ≡ v.rest)
    → fed_length v + left ≤ LONGEST_FILE → IsCutting (record v { rest = grown }) whole
Cutting-grown {v = v} {whole = whole} Gave (Ok n) grown left c (piece, gave, is, size) within _ h = rw is (record {
  fed = c.fed ++ piece;
  has = HasFed-more v c.fed piece c.has;
  below = c.below;
  within = omega (arith, c.within, length-append v.rest piece);
  front = rw (take-append-le whole v.rest piece c.within) c.front;
  bound = omega (arith, h, within, size, length-append v.rest piece);
})
Cutting-grown Gave (Err _) grown left c _ _ e h = rw e c

-- ---- the vector in which the bytes stand

-- what was behind a run stands at the front of the next vector
pub written_over : (old front : List ℕ) (rest behind : List ℕ) (length_is end most : ℕ) → front ≡ take (length_is - end) (drop end old) ++ rest
    → end ≤ length_is → length_is ≤ length old → length_is - end ≤ most
    → take (length_is - end) (take most (front ++ behind)) ≡ drop end (take length_is old)
written_over old front rest behind length_is end most is within long room =
    let n = length_is - end in
    let piece = take n (drop end old) in
    let size : length piece ≡ n = length-take-le n (drop end old) (omega (arith, length-drop end old, within, long)) in
    let whole : end + n ≡ length_is = omega (arith, within) in
    take-take n most (front ++ behind) room ∙ ap (take n) (ap (λ l. l ++ behind) is ∙ append_assoc piece rest behind)
    ∙ take_at piece (rest ++ behind) n size ∙ sym (subst (λ k. drop end (take k old) ≡ piece) whole (drop-take end n old))
