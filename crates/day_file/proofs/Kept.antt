-- What a `Cut` keeps of its morsels, as it grows.
use Rattle.std.proofs.Common.{Fits, List, Some, [], ℕ, ◌++◌, ◌+◌, ◌<◌, ◌∙◌, ◌∷◌, ◌≡◌, ◌≤◌, ap, arith, get_or, length, map, refl, slice_get, suc, sym, w8, zero}
use Rattle.std.proofs.lemmas.List.{get_or_default, length-append, length-map, map-append}
use Rattle.std.specs.List.{concat}
use Rattle.base.proofs.Lists.{length-concat_push}
use Rattle.std.proofs.lemmas.Option.{slice_get_read}
use Rattle.std.proofs.Math.ListN.{get_or-map}
use Rattle.std.proofs.lemmas.List.Elements.{All-push}
use Rattle.base.specs.declared.limits.TheConstants.{LONGEST_FILE, MOST_MORSELS}
use Rattle.base.specs.Among.{AreBytes}
use Rattle.day_file.specs.Cuts.{IsRun, MorselView, start_of}
use Rattle.day_file.specs.Kept.{runs_of, numbered, AreMorsels, IsKept}

pub length-numbered : (number start : ℕ) (runs : List (List ℕ)) → length (numbered number start runs) ≡ length runs
length-numbered number start [] = refl
length-numbered number start (run ∷ runs) = ap suc (length-numbered (number + 1) (start + length run) runs)

pub numbered-append : (number start : ℕ) (runs more : List (List ℕ))
    → numbered number start (runs ++ more) ≡ numbered number start runs ++ numbered (number + length runs) (start + length (concat runs)) more
numbered-append number start [] more = grind arith
numbered-append number start (run ∷ runs) more = grind (arith, length-append, numbered-append (number + 1) (start + length run) runs more)

pub numbered-last : (number start : ℕ) (runs : List (List ℕ)) (run : List ℕ) →
    numbered number start (runs ++ run ∷ []) ≡ numbered number start runs ++ record
    { number = number + length runs; start = start + length (concat runs); bytes = run } ∷ []
numbered-last number start runs run = numbered-append number start runs (run ∷ [])

-- one morsel more
pub IsKept-more : (morsels : List MorselView) (number total size : ℕ) (run : List ℕ) → IsKept morsels total → number ≡ length morsels
    → size ≡ length run → IsRun run → AreBytes run → length morsels < MOST_MORSELS → total + size ≤ LONGEST_FILE
    → IsKept (morsels ++ record { number = number; start = total; bytes = run } ∷ []) (total + size)
IsKept-more morsels number total size run kept n s r bytes few h =
    let last : MorselView = record { number = number; start = total; bytes = run } in
    let runs = runs_of morsels in
    let grown : runs_of (morsels ++ last ∷ []) ≡ runs ++ run ∷ [] = map-append (λ morsel. morsel.bytes) morsels (last ∷ []) in
    let a : number ≡ 0 + length runs = omega (arith, length-map morsels (λ morsel. morsel.bytes), n) in
    let b : total ≡ 0 + length (concat runs) = omega (arith, kept.total_is) in
    let all = length-concat_push runs run in
    record {
      are = rw grown (record {
        are = ap (λ l. l ++ last ∷ []) kept.are.are
            ∙ (λ i. numbered 0 0 runs ++ record { number = a i; start = b i; bytes = run } ∷ []) ∙ sym (numbered-last 0 0 runs run);
        each = All-push IsRun runs run kept.are.each r;
        bytes = All-push AreBytes runs run kept.are.bytes bytes;
        few = omega (arith, few, length-append runs (run ∷ []), a, n);
        within = omega (arith, h, s, all, b);
      });
      total_is = omega (arith, s, b, ap (λ l. length (concat l)) grown, all);
    }

-- the morsel of a number
abbrev pub IsMorselOf : List (List ℕ) → ℕ → ℕ → ℕ → MorselView → Type 0
IsMorselOf runs number first start m = (m.number ≡ first + number) × (m.start ≡ start + start_of runs number) × (slice_get runs number ≡ Some m.bytes)

pub numbered_at : (runs : List (List ℕ)) (k first start : ℕ) (m : MorselView) → slice_get (numbered first start runs) k ≡ Some m
    → IsMorselOf runs k first start m
numbered_at [] k first start m e = absurd (cc)
numbered_at (run ∷ runs) zero first start m e = grind arith
numbered_at (run ∷ runs) (suc k) first start m e = grind (arith, length-append, numbered_at runs k (first + 1) (start + length run) m e)

-- the morsel that is read at a number
pub morsel_at : {X : Type 0} (value : X → MorselView) (items : List X) (x : X) (k : ℕ) {runs : List (List ℕ)} → AreMorsels runs (map value items)
    → k < length runs → x ≡ get_or items k x → IsMorselOf runs k 0 0 (value x)
morsel_at value items x k {runs} m h e =
    let all = map value items in
    let here : value x ≡ get_or all k (value x) = ap value e ∙ sym (get_or-map value items k x) in
    let read : slice_get all k ≡ Some (value x) =
    slice_get_read all (length all) k (value x) refl (omega (arith, ap length m.are, length-numbered 0 0 runs, h)) here in
    numbered_at runs k 0 0 (value x) (ap (λ l. slice_get l k) (sym m.are) ∙ read)

-- what a vector of bytes has
pub bytes_of_type : (bytes : List ℕ) → ((k : ℕ) → Fits w8 (get_or bytes k 0)) → AreBytes bytes
bytes_of_type bytes each k d within = omega (arith, each k, get_or_default bytes k d 0 within)

pub ruleset growing = (IsKept-more, map-append, length-map)
