-- The inputs of the scans of a cut that stands behind so many morsels and bytes.
use Rattle.std.proofs.Common.{◌≡◌, ℕ, zero, suc, ◌+◌, ◌<◌, ◌≤◌, List, [], ◌∷◌, get_or, length, map, take, drop, refl, sym, ap, ◌∙◌, arith}
use Rattle.std.specs.List.{concat}
use Rattle.std.proofs.lemmas.List.{drop-map, length-append, length-map, take-append-drop, take-map}
use Rattle.std.proofs.lemmas.List.Folds.{concat-append}
use Rattle.base.specs.declared.limits.TheConstants.{LONGEST_FILE, MOST_MORSELS}
use Rattle.day_file.specs.Cuts.{MorselView, start_of}
use Rattle.day_file.specs.Kept.{AreMorsels, numbered, runs_of}
use Rattle.day_file.proofs.Kept.{length-numbered, morsel_at}
use Rattle.scanning.specs.Scans.{AreRuns, bytes_of}

-- what is asked only of what stands behind others
behind : (before n most : ℕ) → n ≤ most → (0 < before → before + n ≤ most) → before + n ≤ most
behind zero n most h further = omega (arith, h)
behind (suc before) n most h further = further (omega arith)

runs_numbered : (number start : ℕ) (runs : List (List ℕ)) → runs_of (numbered number start runs) ≡ runs
runs_numbered number start [] = refl
runs_numbered number start (run ∷ runs) = ap (λ l. run ∷ l) (runs_numbered (number + 1) (start + length run) runs)

-- neighbouring runs, with what comes before them, are within all of them
pub part_within : (runs : List (List ℕ)) (from n : ℕ) → start_of runs from + length (concat (take n (drop from runs))) ≤ length (concat runs)
part_within runs from n =
    let tail = drop from runs in
    let all = ap concat (sym (take-append-drop from runs)) ∙ concat-append (take from runs) tail in
    let rest = ap concat (sym (take-append-drop n tail)) ∙ concat-append (take n tail) (drop n tail) in
    omega (
      arith,
      ap length all,
      length-append (concat (take from runs)) (concat tail),
      ap length rest,
      length-append (concat (take n tail)) (concat (drop n tail)),
    )

module _ {X : Type 0} (value : X → MorselView) (items : List X) {runs : List (List ℕ)} (m : AreMorsels runs (map value items)) where
  -- there are as many morsels as runs
  pub as_many : length items ≡ length runs
  as_many = omega (arith, ap length m.are, length-map items value, length-numbered 0 0 runs)

  -- where the morsel of a number begins
  pub begins_at : {from : ℕ} {x : X} → from < length items → x ≡ get_or items from x → (value x).start ≡ start_of runs from
  begins_at {from} {x} below is = omega (arith, (morsel_at value items x from m (omega (arith, as_many, below)) is).1)

  -- neighbouring morsels have the bytes of their runs
  pub part_bytes : (from n : ℕ) → bytes_of (map value (take n (drop from items))) ≡ concat (take n (drop from runs))
  part_bytes from n =
      ap bytes_of (sym (take-map value n (drop from items)) ∙ ap (take n) (sym (drop-map value from items)))
      ∙ ap concat (sym (take-map (λ (morsel : MorselView). morsel.bytes) n (drop from (map value items)))
      ∙ ap (take n) (sym (drop-map (λ (morsel : MorselView). morsel.bytes) from (map value items))))
      ∙ ap (λ l. concat (take n (drop from l))) (ap runs_of m.are ∙ runs_numbered 0 0 runs)

  -- all of them fit behind so many morsels and bytes, if that is asked of what stands behind others
  module _ {first start : ℕ} (few : 0 < first → first + length runs ≤ MOST_MORSELS)
      (within : 0 < start → start + length (concat runs) ≤ LONGEST_FILE) where
    pub are_few : first + length runs ≤ MOST_MORSELS
    are_few = behind first (length runs) MOST_MORSELS m.few few

    pub are_runs : AreRuns start runs
    are_runs = record { each = m.each; bytes = m.bytes; within = behind start (length (concat runs)) LONGEST_FILE m.within within }
