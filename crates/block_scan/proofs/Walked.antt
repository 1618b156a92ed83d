-- What is walked of a buffer.
use Rattle.std.proofs.Common.{◌≡◌, ℕ, ◌+◌, ◌-◌, ◌*◌, ◌<◌, ◌≤◌, Bool, true, false, nat_le, List, [], ◌∷◌, ◌++◌, Option}
use Rattle.std.proofs.Common.{length, take, drop, take_at, drop_at, refl, sym, ap, ◌∙◌, subst, arith, append_assoc}
use Rattle.std.proofs.lemmas.Bool.{leb-true}
use Rattle.std.proofs.lemmas.Bool.Decides.{nat_tests}
use Rattle.std.proofs.lemmas.List.{length-append}
use Rattle.base.proofs.Lists.{All-parts}
use Rattle.base.specs.Among.{AreBytes}
use Rattle.day_file.specs.Frames.{PlacedBody, IsShort, IsStuck, StandAt, StandsFrom, spelling}
use Rattle.day_file.proofs.Joined.{spelling-append}
use Rattle.day_file.proofs.Laws.{StandAt-split}
use Rattle.day_file.proofs.Readings.{AreShort, IsReading}
use Rattle.day_file.proofs.Walks.{frame_found}
use Rattle.scanning.specs.Scans.{AreTakenIn, ScanView, TakesIn}
use Rattle.day_file.specs.declared.frame.TheConstants.{LONGEST_FRAME}

-- what a walk did over bytes that begin at this place: the frames of the first `walked` of them were taken in, and it
-- ended at the target, or where there is no whole frame
pub record IsWalked (as_of : Option ℕ) (bytes : List ℕ) (place target walked : ℕ) (old new : ScanView)
    : Type 0 where
  pub frames : List PlacedBody
  pub within : walked ≤ length bytes
  pub stands : StandsFrom place frames (take walked bytes)
  pub takes : TakesIn as_of frames old new
  pub ends : place + walked < target → IsStuck (drop walked bytes)

-- ---- what is read

-- a rest in which no frame stands is no longer than the longest frame
pub stuck_short : (bytes : List ℕ) → AreBytes bytes → IsStuck bytes → length bytes ≤ LONGEST_FRAME
stuck_short [] b s = omega arith
stuck_short (high ∷ []) b s = omega arith
stuck_short (high ∷ low ∷ after) b s = go (nat_le size (length after)) refl
  where
    bytes : List ℕ
    bytes = high ∷ low ∷ after

    size : ℕ
    size = high * 256 + (low * 1 + 0)

    go : (q : Bool) → nat_le size (length after) ≡ q → length bytes ≤ LONGEST_FRAME
    go true e =
        let found = frame_found bytes size b (record { told = refl; prefix = omega arith; body = leb-true size (length after) e }) in
        absurd (s (take size after) (drop size after) found.1 found.0)
    go false e =
        let less : length after < size = grind (arith, nat_tests) in
        omega (arith, less, b 0 0 (omega arith), b 1 0 (omega arith))

-- ---- the walk

-- what is taken in has no more bytes than the frames have
pub walked_within : {as_of : Option ℕ} {frames : List PlacedBody} {bytes walked : ℕ} {old new : ScanView} → AreTakenIn as_of frames bytes walked old new
    → walked ≤ length (spelling frames)
walked_within w = omega (
  arith,
  w.walked_is,
  ap (λ l. length (spelling l)) w.split,
  ap length (spelling-append w.front w.rest),
  length-append (spelling w.front) (spelling w.rest),
)

-- what is taken in of the frames of bytes is walked
pub walked_of : {as_of : Option ℕ} {bytes : List ℕ} {place target walked : ℕ} {all : List PlacedBody} {rest : List ℕ} {old new : ScanView}
    → IsReading place bytes all rest → AreTakenIn as_of all (target - place) walked old new → IsWalked as_of bytes place target walked old new
walked_of {bytes = bytes} {place} {target} {walked} {rest = rest} reading w =
    let front = w.front in
    let split : bytes ≡ spelling front ++ (spelling w.rest ++ rest) = reading.split ∙ ap (λ l. spelling l ++ rest) w.split
    ∙ ap (λ l. l ++ rest) (spelling-append front w.rest) ∙ append_assoc (spelling front) (spelling w.rest) rest in
    let n : length (spelling front) ≡ walked = sym w.walked_is in
    record {
      frames = front;
      within = omega (arith, ap length split, length-append (spelling front) (spelling w.rest ++ rest), n);
      stands = record {
        places = (StandAt-split place front w.rest (subst (StandAt place) w.split reading.places)).0;
        short = (All-parts (λ (f : PlacedBody). IsShort f.body) front w.rest (subst AreShort w.split reading.short)).0;
        whole = ap (take walked) split ∙ take_at (spelling front) (spelling w.rest ++ rest) walked n;
      };
      takes = w.takes;
      ends = λ h. subst IsStuck (sym (ap (drop walked) split ∙ drop_at (spelling front) (spelling w.rest ++ rest) walked n
          ∙ ap (λ l. spelling l ++ rest) (w.ends (omega (arith, h))))) reading.stuck;
    }
