-- What is found in a morsel, and in the morsels of one cut.
-- To be believed of a crate used by itself: the answer isn't defined by morsels.
use Rattle.std.specs.Prelude.{◌≡◌, ℕ, ◌+◌, ◌<◌, ◌≤◌, ◌==◌, ◌&&◌, Bool, List, [], ◌∷◌, ◌++◌, All, length, map, nat_eq, Option, Some, None, filter_map, option_to_list, if◌then◌else◌}
use Rattle.std.specs.Cmp.{IsEquivalence}
use Rattle.std.specs.List.{concat, flat_map}
use Rattle.std.specs.Option.{option_eq}
use Rattle.std.proofs.Common.{arith}
use Rattle.std.proofs.lemmas.Bool.Decides.{nat_tests}
use Rattle.base.specs.Among.{AreBytes}
use Rattle.base.proofs.Exact.{IsExact, exact_equiv, exact_list, exact_nat, exact_option}
use Rattle.base.specs.Least.{least_by}
use Rattle.base.specs.declared.limits.TheConstants.{LONGEST_FILE, MOST_PARTITIONS}
use Rattle.itch_messages.specs.Body.{has_wrong_length, length_fault_of}
use Rattle.day_file.specs.Cuts.{IsRun, MorselView, is_same_morsel}
use Rattle.day_file.specs.Frames.{PlacedBody, spelling}
use Rattle.day_file.specs.Kept.{numbered, runs_of}
use Rattle.day_file.specs.Walk.{frames_of}
use Rattle.day_rows.specs.DayRows.{rows_of}
use Rattle.day_rows.specs.Messages.{counted, messages_of}
use Rattle.morsel_rows.specs.Partitions.{MorselRowsView, in_partitions}
use Rattle.scanning.specs.declared.wrong.WrongLength.{WrongLength}

-- the bytes of morsels, one after the other
abbrev pub bytes_of : List MorselView → List ℕ
bytes_of morsels = concat (runs_of morsels)

-- a morsel, the moment up to which its messages count, and the number of partitions
pub record ScanInputView : Type 0 where
  pub morsel : MorselView
  pub as_of : Option ℕ
  pub parts : ℕ

-- both have equal morsels, one moment or none, and one number of partitions
abbrev pub is_same_input : ScanInputView → ScanInputView → Bool
is_same_input a b = is_same_morsel a.morsel b.morsel && option_eq nat_eq a.as_of b.as_of && (a.parts == b.parts)

-- ---- what is found in one morsel

-- what is reported of a frame of a wrong length
abbrev pub wrong_at : PlacedBody → Option WrongLength
wrong_at frame =
    if has_wrong_length frame.body
    then Some (record { place = frame.place; fault = length_fault_of frame.body })
    else None

-- of what is reported of frames of a wrong length, the one of least place
abbrev pub wrong_in : List PlacedBody → Option WrongLength
wrong_in frames = least_by (λ wrong. wrong.place) (filter_map wrong_at frames)

-- what contracts see of a scan: rows in partitions, and the wrong length of least place
pub record ScanView : Type 0 where
  pub rows : MorselRowsView
  pub wrong : Option WrongLength

-- what frames give: the rows of their messages that count, in n partitions
abbrev pub scan_of : ℕ → Option ℕ → List PlacedBody → ScanView
scan_of n as_of frames = record {
  rows = in_partitions n (rows_of (counted as_of (messages_of frames)));
  wrong = wrong_in frames;
}

-- if the old scan is of some frames, the new one is of those and of these after them
abbrev pub TakesIn : Option ℕ → List PlacedBody → ScanView → ScanView → Type 0
TakesIn as_of more old new =
    (n : ℕ) (frames : List PlacedBody) → 0 < n → n ≤ MOST_PARTITIONS →
    old ≡ scan_of n as_of frames → new ≡ scan_of n as_of (frames ++ more)

-- of frames, the first ones were taken in, which have `walked` bytes; if that is fewer than `bytes`, they are all (so
-- where `bytes` is 0, they are any number of the first)
pub record AreTakenIn (as_of : Option ℕ) (frames : List PlacedBody) (bytes walked : ℕ) (old new : ScanView)
    : Type 0 where
  pub front : List PlacedBody
  pub rest : List PlacedBody
  pub split : frames ≡ front ++ rest
  pub walked_is : walked ≡ length (spelling front)
  pub takes : TakesIn as_of front old new
  pub ends : walked < bytes → rest ≡ []

-- the value of an input
abbrev pub scanned : ScanInputView → ScanView
scanned input = scan_of input.parts input.as_of (frames_of input.morsel)

-- ---- what is found in morsels

-- what contracts see of a total: the rows of each morsel, and the wrong length of least place
pub record ScanTotalView : Type 0 where
  pub morsels : List MorselRowsView
  pub wrong : Option WrongLength

-- a total with another one: the morsels of both, and of their wrong lengths the one of least place
abbrev pub with_scans : ScanTotalView → ScanTotalView → ScanTotalView
with_scans total other = record {
  morsels = total.morsels ++ other.morsels;
  wrong = least_by (λ wrong. wrong.place) (option_to_list total.wrong ++ option_to_list other.wrong);
}

-- a total with what one morsel more gives
abbrev pub with_scan : ScanTotalView → ScanView → ScanTotalView
with_scan total scan = with_scans total (record { morsels = scan.rows ∷ []; wrong = scan.wrong })

-- the total of inputs
abbrev pub total_of : List ScanInputView → ScanTotalView
total_of inputs = record {
  morsels = map (λ input. (scanned input).rows) inputs;
  wrong = least_by (λ wrong. wrong.place) (filter_map (λ input. (scanned input).wrong) inputs);
}

-- the inputs of the scans of morsels of a cut that follow each other, of which the first has this number and begins at
-- this place: those morsels, in order, with one moment and one number of partitions
abbrev pub inputs_from : ℕ → ℕ → Option ℕ → ℕ → List (List ℕ) → List ScanInputView
inputs_from first start as_of parts runs =
    map (λ morsel. record { morsel = morsel; as_of = as_of; parts = parts }) (numbered first start runs)

-- the inputs of the scans of a cut: its morsels, in order, with one moment and one number of partitions
abbrev pub inputs_of : Option ℕ → ℕ → List (List ℕ) → List ScanInputView
inputs_of as_of parts runs = inputs_from 0 0 as_of parts runs

-- the runs of a cut, where `start` bytes stand before them: whole frames, bytes, no more than a file may have
pub record AreRuns (start : ℕ) (runs : List (List ℕ)) : Type 0 where
  pub each : All IsRun runs
  pub bytes : All AreBytes runs
  pub within : start + length (concat runs) ≤ LONGEST_FILE

-- each of these is up to `most` neighbouring ones of the runs, joined
pub record AreJoined (most : ℕ) (runs joined : List (List ℕ)) : Type 0 where
  pub groups : List (List (List ℕ))
  pub all : runs ≡ flat_map (λ group. group) groups
  pub some : All (λ group. 0 < length group) groups
  pub few : All (λ group. length group ≤ most) groups
  pub are : joined ≡ map concat groups

-- the inputs of the scans of a cut by itself, whose runs are scanned up to `most` neighbouring ones together: the first
-- input has this number and begins at this place
pub record AreTogether (most first start : ℕ) (as_of : Option ℕ) (parts : ℕ) (runs : List (List ℕ))
    (inputs : List ScanInputView) : Type 0 where
  pub joined : List (List ℕ)
  pub is : AreJoined most runs joined
  pub are : inputs ≡ inputs_from first start as_of parts joined

-- these are the inputs of the scans of morsels of one cut that follow each other
pub record AreConsecutive (inputs : List ScanInputView) : Type 0 where
  pub first : ℕ
  pub start : ℕ
  pub runs : List (List ℕ)
  pub each : All IsRun runs
  pub bytes : All AreBytes runs
  pub within : start + length (concat runs) ≤ LONGEST_FILE
  pub as_of : Option ℕ
  pub parts : ℕ
  pub some : 0 < parts
  pub are : inputs ≡ inputs_from first start as_of parts runs

-- ---- equal inputs are one

exact_morsel : IsExact is_same_morsel
exact_morsel = record {
  itself = λ a. grind (arith, nat_tests, (exact_list exact_nat).itself);
  one = λ a b h. grind (arith, nat_tests, (exact_list exact_nat).one);
}

pub exact_input : IsExact is_same_input
exact_input = record {
  itself = λ a. grind (arith, nat_tests, exact_morsel.itself, (exact_option exact_nat).itself);
  one = λ a b h. grind (arith, nat_tests, exact_morsel.one, (exact_option exact_nat).one);
}

pub input_equiv : IsEquivalence is_same_input
input_equiv = exact_equiv exact_input
