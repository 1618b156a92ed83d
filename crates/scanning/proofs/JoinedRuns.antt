-- Runs that are scanned together: neighbouring ones, joined.
use Rattle.std.proofs.Common.{◌≡◌, ℕ, ◌+◌, ◌-◌, ◌<◌, ◌≤◌, List, [], ◌∷◌, ◌++◌, Option, All, length, map, take, drop, refl, sym, ap, ap₂, ◌∙◌, subst, arith}
use Rattle.std.specs.List.{concat, flat_map}
use Rattle.std.proofs.Math.Seq.{take-add}
use Rattle.std.proofs.lemmas.Grind.{flat_map-append}
use Rattle.std.proofs.lemmas.List.{append-nil, length-append, length-drop, length-map, length-take-le, map_push}
use Rattle.std.proofs.lemmas.List.Elements.{All-append, All-cons, All-head, All-nil, All-push, All-tail}
use Rattle.std.proofs.lemmas.List.Folds.{concat-append}
use Rattle.base.proofs.Lists.{All-parts}
use Rattle.base.specs.Among.{AreBytes}
use Rattle.day_file.specs.Cuts.{IsRun, MorselView, start_of}
use Rattle.day_file.specs.Kept.{numbered}
use Rattle.day_file.proofs.Walks.{frames_of_cut}
use Rattle.day_file.proofs.Kept.{length-numbered}
use Rattle.scanning.specs.Scans.{AreJoined, AreConsecutive, AreRuns, AreTogether, ScanInputView, inputs_from}
use Rattle.scanning.proofs.TotalOfScans.{inputs_joined}

-- ---- runs joined

concat_each : (groups : List (List (List ℕ))) → concat (map concat groups) ≡ concat (flat_map (λ group. group) groups)
concat_each [] = refl
concat_each (group ∷ groups) =
    ap (λ l. concat group ++ l) (concat_each groups) ∙ sym (concat-append group (flat_map (λ g. g) groups))

-- they have the bytes of the runs
pub joined_bytes : {most : ℕ} {runs joined : List (List ℕ)} → AreJoined most runs joined → concat joined ≡ concat runs
joined_bytes j = ap concat j.are ∙ concat_each j.groups ∙ ap concat (sym j.all)

-- one or more runs joined are a run
run_of_runs : (runs : List (List ℕ)) → 0 < length runs → All IsRun runs → IsRun (concat runs)
run_of_runs [] some each = absurd (omega (arith, some))
run_of_runs (run ∷ runs) some each = record {
  some = omega (arith, (each 0 run (omega arith)).some, length-append run (concat runs));
  whole = (_, frames_of_cut (run ∷ runs) each);
}

-- their bytes are bytes
pub bytes_of_runs : (runs : List (List ℕ)) → All AreBytes runs → AreBytes (concat runs)
bytes_of_runs [] each = All-nil _
bytes_of_runs (run ∷ runs) each = All-append (λ byte. byte < 256) run (concat runs) (each 0 run (omega arith)) (bytes_of_runs runs (All-tail AreBytes run runs each))

each_run : (groups : List (List (List ℕ))) → All (λ group. 0 < length group) groups → All IsRun (flat_map (λ group. group) groups)
    → All IsRun (map concat groups)
each_run [] some each = All-nil _
each_run (group ∷ groups) some each =
    let parts = All-parts IsRun group (flat_map (λ g. g) groups) each in
    All-cons IsRun (concat group) (map concat groups)
    (run_of_runs group (All-head (λ (g : List (List ℕ)). 0 < length g) group groups some) parts.0)
    (each_run groups (All-tail (λ (g : List (List ℕ)). 0 < length g) group groups some) parts.1)

each_bytes : (groups : List (List (List ℕ))) → All AreBytes (flat_map (λ group. group) groups) → All AreBytes (map concat groups)
each_bytes [] each = All-nil _
each_bytes (group ∷ groups) each =
    let parts = All-parts AreBytes group (flat_map (λ g. g) groups) each in
    All-cons AreBytes (concat group) (map concat groups) (bytes_of_runs group parts.0) (each_bytes groups parts.1)

-- what is known of runs is known of them joined
pub runs_joined : {start most : ℕ} {runs joined : List (List ℕ)} → AreRuns start runs → AreJoined most runs joined → AreRuns start joined
runs_joined {runs = runs} are j = record {
  each = subst (All IsRun) (sym j.are) (each_run j.groups j.some (subst (All IsRun) j.all are.each));
  bytes = subst (All AreBytes) (sym j.are) (each_bytes j.groups (subst (All AreBytes) j.all are.bytes));
  within = omega (arith, are.within, ap length (joined_bytes j));
}

-- there are no more of them
more_runs : (groups : List (List (List ℕ))) → All (λ group. 0 < length group) groups → length groups ≤ length (flat_map (λ group. group) groups)
more_runs [] some = omega arith
more_runs (group ∷ groups) some =
    omega (
      arith,
      length-append group (flat_map (λ g. g) groups),
      All-head (λ (g : List (List ℕ)). 0 < length g) group groups some,
      more_runs groups (All-tail (λ (g : List (List ℕ)). 0 < length g) group groups some),
    )

pub no_more : {most : ℕ} {runs joined : List (List ℕ)} → AreJoined most runs joined → length joined ≤ length runs
no_more j = omega (arith, ap length j.are, length-map j.groups concat, ap length j.all, more_runs j.groups j.some)

-- one by one they are the runs themselves
single : (groups : List (List (List ℕ))) → All (λ group. 0 < length group) groups → All (λ group. length group ≤ 1) groups
    → map concat groups ≡ flat_map (λ group. group) groups
single [] some few = refl
single ([] ∷ groups) some few = absurd (omega (arith, some 0 [] (omega arith)))
single ((run ∷ []) ∷ groups) some few =
    ap₂ (λ x l. x ∷ l) (append-nil run) (single groups (All-tail (λ (g : List (List ℕ)). 0 < length g) (run ∷ []) groups some)
    (All-tail (λ (g : List (List ℕ)). length g ≤ 1) (run ∷ []) groups few))
single ((run ∷ more ∷ runs) ∷ groups) some few = absurd (omega (arith, few 0 (run ∷ more ∷ runs) (omega arith)))

pub one_by_one : {runs joined : List (List ℕ)} → AreJoined 1 runs joined → joined ≡ runs
one_by_one j = j.are ∙ single j.groups j.some j.few ∙ sym j.all

-- ---- their inputs

-- there are as many inputs as runs that are joined
pub as_many_inputs : (first start : ℕ) (as_of : Option ℕ) (parts : ℕ) (runs : List (List ℕ)) → length (inputs_from first start as_of parts runs) ≡ length runs
as_many_inputs first start as_of parts runs =
    length-map (numbered first start runs) (λ (morsel : MorselView). record { morsel = morsel; as_of = as_of; parts = parts })
    ∙ length-numbered first start runs

-- with the next runs as one more
pub one_together : (runs : List (List ℕ)) {most first start : ℕ} {as_of : Option ℕ} {parts : ℕ} {inputs : List ScanInputView} {from to number place : ℕ}
    → AreTogether most first start as_of parts (take from runs) inputs → from < to → to ≤ length runs → to ≤ from + most
    → number ≡ first + length inputs → place ≡ start + start_of runs from
    → AreTogether most first start as_of parts (take to runs)
    (inputs ++ record
    { morsel = record { number = number; start = place; bytes = concat (take (to - from) (drop from runs)) }; as_of = as_of; parts = parts } ∷ [])
one_together runs {most} {first} {start} {as_of} {parts} {inputs} {from} {to} {number} {place} so_far longer within few is at =
    let group = take (to - from) (drop from runs) in
    let groups = so_far.is.groups in
    let joined = so_far.joined in
    let size : length group ≡ to - from = length-take-le (to - from) (drop from runs) (omega (arith, within, longer, length-drop from runs)) in
    let ends : from + (to - from) ≡ to = omega (arith, longer) in
    let all : take to runs ≡ take from runs ++ group = ap (λ n. take n runs) (sym ends) ∙ take-add from (to - from) runs in
    let last : MorselView = record { number = number; start = place; bytes = concat group } in
    let n : first + length joined ≡ number =
    omega (arith, is, ap length so_far.are, as_many_inputs first start as_of parts joined) in
    let p : start + length (concat joined) ≡ place = omega (arith, at, ap length (joined_bytes so_far.is)) in
    let one : inputs_from (first + length joined) (start + length (concat joined)) as_of parts (concat group ∷ [])
    ≡ record { morsel = last; as_of = as_of; parts = parts } ∷ [] =
    λ i. record { morsel = record { number = n i; start = p i; bytes = concat group }; as_of = as_of; parts = parts } ∷ [] in
    record {
      joined = joined ++ concat group ∷ [];
      is = record {
        groups = groups ++ group ∷ [];
        all = all ∙ ap₂ ◌++◌ so_far.is.all (sym (append-nil group)) ∙ sym (flat_map-append (λ g. g) groups (group ∷ []));
        some = All-push (λ (g : List (List ℕ)). 0 < length g) groups group so_far.is.some (omega (arith, size, longer));
        few = All-push (λ (g : List (List ℕ)). length g ≤ most) groups group so_far.is.few (omega (arith, size, few));
        are = ap (λ l. l ++ concat group ∷ []) so_far.is.are ∙ sym (map_push concat groups group);
      };
      are = ap₂ ◌++◌ so_far.are (sym one) ∙ sym (inputs_joined first start as_of parts joined (concat group ∷ []));
    }

-- there are no more inputs than runs
pub few_inputs : {most first start : ℕ} {as_of : Option ℕ} {parts : ℕ} {runs : List (List ℕ)} {inputs : List ScanInputView}
    → AreTogether most first start as_of parts runs inputs → length inputs ≤ length runs
few_inputs {first = first} {start = start} {as_of = as_of} {parts = parts} t =
    omega (arith, ap length t.are, as_many_inputs first start as_of parts t.joined, no_more t.is)

-- they may be worked on
pub of_one_cut : {most first start : ℕ} {as_of : Option ℕ} {parts : ℕ} {runs : List (List ℕ)} {inputs : List ScanInputView}
    → AreTogether most first start as_of parts runs inputs → 0 < parts → AreRuns start runs → AreConsecutive inputs
of_one_cut {first = first} {start = start} {as_of = as_of} {parts = parts} t some are =
    let joined = runs_joined are t.is in record {
      first = first;
      start = start;
      runs = t.joined;
      each = joined.each;
      bytes = joined.bytes;
      within = joined.within;
      as_of = as_of;
      parts = parts;
      some = some;
      are = t.are;
    }
