-- The total of one input more, and of a cut of which a part was scanned by itself.
use Rattle.std.proofs.Common.{◌≡◌, ℕ, ◌+◌, List, [], ◌∷◌, ◌++◌, Option, length, filter_map, map, refl, ap, ap₂, ◌∙◌, arith}
use Rattle.std.specs.List.{concat, cons_option}
use Rattle.std.proofs.lemmas.List.{map-append, map_push}
use Rattle.std.proofs.lemmas.List.Elements.{filter_map-append}
use Rattle.base.specs.Least.{least_by}
use Rattle.base.proofs.Least.{least_more, least_of_both}
use Rattle.day_file.specs.Walk.{frames_of}
use Rattle.day_file.proofs.Kept.{numbered-append}
use Rattle.scanning.specs.Scans.{ScanInputView, inputs_from, inputs_of, scan_of, scanned, total_of, with_scan, with_scans}
use Rattle.scanning.specs.declared.wrong.WrongLength.{WrongLength}

pub total_more : (before : List ScanInputView) (next : ScanInputView) → total_of (before ++ next ∷ []) ≡ with_scan (total_of before) (scanned next)
total_more before next = grind (arith, map_push, least_more)

-- the total of inputs and others after them
pub total_of_both : (before more : List ScanInputView) → total_of (before ++ more) ≡ with_scans (total_of before) (total_of more)
total_of_both before more = grind (arith, map-append, filter_map-append, least_of_both)

-- the inputs of a cut are those of its first morsels and those of the others
pub inputs_joined : (first start : ℕ) (as_of : Option ℕ) (parts : ℕ) (runs more : List (List ℕ)) → inputs_from first start as_of parts (runs ++ more)
    ≡ inputs_from first start as_of parts runs ++ inputs_from (first + length runs) (start + length (concat runs)) as_of parts more
inputs_joined first start as_of parts runs more = grind (arith, numbered-append, map-append)

-- the total of inputs doesn't depend on their numbers
same_rows : (a b start : ℕ) (as_of : Option ℕ) (parts : ℕ) (runs : List (List ℕ)) → map (λ input. (scanned input).rows) (inputs_from a start as_of parts runs)
    ≡ map (λ input. (scanned input).rows) (inputs_from b start as_of parts runs)
same_rows a b start as_of parts [] = refl
same_rows a b start as_of parts (run ∷ runs) =
    ap (λ l. (scan_of parts as_of (frames_of (record { number = a; start = start; bytes = run }))).rows ∷ l)
    (same_rows (a + 1) (b + 1) (start + length run) as_of parts runs)

same_wrong : (a b start : ℕ) (as_of : Option ℕ) (parts : ℕ) (runs : List (List ℕ)) → filter_map (λ input. (scanned input).wrong)
    (inputs_from a start as_of parts runs) ≡ filter_map (λ input. (scanned input).wrong) (inputs_from b start as_of parts runs)
same_wrong a b start as_of parts [] = refl
same_wrong a b start as_of parts (run ∷ runs) =
    ap (cons_option (scan_of parts as_of (frames_of (record { number = a; start = start; bytes = run }))).wrong)
    (same_wrong (a + 1) (b + 1) (start + length run) as_of parts runs)

total_of_any : (a b start : ℕ) (as_of : Option ℕ) (parts : ℕ) (runs : List (List ℕ)) → total_of (inputs_from a start as_of parts runs)
    ≡ total_of (inputs_from b start as_of parts runs)
total_of_any a b start as_of parts runs =
    let rows = same_rows a b start as_of parts runs in
    let wrong = same_wrong a b start as_of parts runs in
    λ i. record { morsels = rows i; wrong = least_by (λ (w : WrongLength). w.place) (wrong i) }

-- the total of a cut is that of its first morsels and that of the others, whichever numbers these have
pub total_joined : (first : ℕ) (as_of : Option ℕ) (parts : ℕ) (runs more : List (List ℕ)) → total_of (inputs_of as_of parts (runs ++ more))
    ≡ with_scans (total_of (inputs_of as_of parts runs)) (total_of (inputs_from first (length (concat runs)) as_of parts more))
total_joined first as_of parts runs more =
    let number : 0 + length runs ≡ length runs = omega arith in
    let start : 0 + length (concat runs) ≡ length (concat runs) = omega arith in
    ap total_of (inputs_joined 0 0 as_of parts runs more
    ∙ ap₂ (λ n s. inputs_of as_of parts runs ++ inputs_from n s as_of parts more) number start)
    ∙ total_of_both (inputs_of as_of parts runs) (inputs_from (length runs) (length (concat runs)) as_of parts more)
    ∙ ap (with_scans (total_of (inputs_of as_of parts runs))) (total_of_any (length runs) first (length (concat runs)) as_of parts more)
