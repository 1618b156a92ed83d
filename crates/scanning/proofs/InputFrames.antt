-- The bytes of the morsels of an input, one after the other, and their frames.
use Rattle.std.proofs.Common.{◌≡◌, ℕ, ◌+◌, ◌-◌, ◌^◌, ◌<◌, ◌≤◌, List, [], ◌∷◌, ◌++◌, Option, get_or, length, map, take, drop, Ordering, nat_eq, refl, sym, ap, ap₂, ◌∙◌, subst, arith}
use Rattle.std.specs.List.{concat, flat_map}
use Rattle.std.specs.Cmp.Lexicographic.{pointwise, slice_cmp}
use Rattle.std.specs.Ordering.{is_eq, nat_cmp}
use Rattle.std.proofs.lemmas.Bool.Decides.{nat_tests}
use Rattle.std.proofs.lemmas.Cmp.{same_from_slice_cmp}
use Rattle.std.proofs.lemmas.List.{append-nil, length-append, map-append, map_push, take-append-drop, take_more}
use Rattle.std.proofs.lemmas.List.Folds.{concat-append}
use Rattle.base.specs.declared.limits.TheConstants.{LONGEST_FILE}
use Rattle.day_file.specs.Cuts.{IsRun, MorselView}
use Rattle.day_file.specs.Frames.{IsWhole, PlacedBody, StandsFrom, spelling}
use Rattle.day_file.specs.Kept.{runs_of}
use Rattle.day_file.specs.Walk.{walk}
use Rattle.day_file.proofs.Walks.{walk_stands, walk_whole}
use Rattle.day_file.proofs.Joined.{IsWhole-append, IsWhole-nil, StandsFrom-append}
use Rattle.scanning.specs.Scans.{AreTakenIn, ScanView, TakesIn, bytes_of, scan_of}
use Rattle.scanning.proofs.PickedFrames.{takes_all, takes_more}

bytes_append : (xs ys : List MorselView) → bytes_of (xs ++ ys) ≡ bytes_of xs ++ bytes_of ys
bytes_append xs ys = ap concat (map-append (λ (m : MorselView). m.bytes) xs ys) ∙ concat-append (runs_of xs) (runs_of ys)

module _ {X : Type 0} (value : X → MorselView) where
  -- the bytes of the first ones
  abbrev pub bytes_so_far : ℕ → List X → List ℕ
  bytes_so_far i xs = bytes_of (map value (take i xs))

  bytes_more : (xs : List X) (i : ℕ) (d : X) → i < length xs
      → bytes_so_far (i + 1) xs ≡ bytes_so_far i xs ++ (value (get_or xs i d)).bytes
  bytes_more xs i d below =
      let x = get_or xs i d in
      ap (λ l. bytes_of (map value l)) (take_more xs i d below) ∙ ap bytes_of (map-append value (take i xs) (x ∷ []))
      ∙ bytes_append (map value (take i xs)) (value x ∷ []) ∙ ap (λ l. bytes_so_far i xs ++ l) (append-nil (value x).bytes)

  -- the first ones have no more than all
  pub bytes_within : (xs : List X) (i : ℕ) → length (bytes_so_far i xs) ≤ length (bytes_of (map value xs))
  bytes_within xs i =
      let split = ap (λ l. bytes_of (map value l)) (sym (take-append-drop i xs)) ∙ ap bytes_of (map-append value (take i xs) (drop i xs))
      ∙ bytes_append (map value (take i xs)) (map value (drop i xs)) in
      omega (arith, ap length split, length-append (bytes_so_far i xs) (bytes_of (map value (drop i xs))))

  -- with one more
  pub bytes_next : (xs : List X) (i : ℕ) (x : X) (run : List ℕ) → i < length xs → x ≡ get_or xs i x → run ≡ (value x).bytes
      → bytes_so_far (i + 1) xs ≡ bytes_so_far i xs ++ run
  bytes_next xs i x run below is bytes = bytes_more xs i x below ∙ ap (λ l. bytes_so_far i xs ++ l) (ap (λ y. (value y).bytes) (sym is) ∙ sym bytes)

  -- this many
  pub more_within : (xs : List X) (i : ℕ) (x : X) (run : List ℕ) → i < length xs → x ≡ get_or xs i x → run ≡ (value x).bytes
      → (length (bytes_so_far (i + 1) xs) ≡ length (bytes_so_far i xs) + length run)
      × (length (bytes_so_far i xs) + length run ≤ length (bytes_of (map value xs)))
  more_within xs i x run below is bytes =
      let more = ap length (bytes_next xs i x run below is bytes) ∙ length-append (bytes_so_far i xs) run in
      (more, omega (arith, more, bytes_within xs (i + 1)))

  -- one more is shared
  pub shared_more : (xs shared more : List X) (i : ℕ) (x y : X) → i < length xs → x ≡ get_or xs i x → value y ≡ value x → more ≡ shared ++ y ∷ []
      → map value shared ≡ map value (take i xs) → map value more ≡ map value (take (i + 1) xs)
  shared_more xs shared more i x y below is same pushed so_far =
      ap (map value) pushed ∙ map_push value shared y ∙ ap₂ (λ l v. l ++ v ∷ []) so_far (same ∙ ap value is)
      ∙ sym (map_push value (take i xs) (get_or xs i x)) ∙ ap (map value) (sym (take_more xs i x below))

  -- as an iterator has them
  pub bytes_flat : (xs : List X) → flat_map (λ x. (value x).bytes) xs ≡ bytes_of (map value xs)
  bytes_flat [] = refl
  bytes_flat (x ∷ xs) = ap (λ l. (value x).bytes ++ l) (bytes_flat xs)

-- the frames of bytes that begin at this place
abbrev pub frames_at : ℕ → List ℕ → List PlacedBody
frames_at start bytes = walk (length bytes) start bytes

-- the frames of whole frames and of whole frames after them
frames_more : (start : ℕ) (bytes more : List ℕ) → IsWhole bytes → IsWhole more
    → frames_at start (bytes ++ more) ≡ frames_at start bytes ++ frames_at (start + length bytes) more
frames_more start bytes more p q =
    walk_whole start (bytes ++ more) (frames_at start bytes ++ frames_at (start + length bytes) more)
    (StandsFrom-append start (frames_at start bytes) (frames_at (start + length bytes) more) bytes more (walk_stands start bytes p)
    (walk_stands (start + length bytes) more q))

-- the frames of these bytes were taken in, which are whole, and the next ones begin at this place
pub record AreIn (as_of : Option ℕ) (start : ℕ) (bytes : List ℕ) (place : ℕ) (old new : ScanView) : Type 0 where
  pub whole : IsWhole bytes
  pub place_is : place ≡ start + length bytes
  pub takes : TakesIn as_of (frames_at start bytes) old new

pub none_in : (as_of : Option ℕ) (start : ℕ) (scan : ScanView) → AreIn as_of start [] start scan scan
none_in as_of start scan = record {
  whole = IsWhole-nil;
  place_is = omega arith;
  takes = λ n frames some most is. is ∙ ap (scan_of n as_of) (sym (append-nil frames));
}

-- with those of the next morsel
pub more_in : {as_of : Option ℕ} {start place : ℕ} {bytes : List ℕ} {old scan new : ScanView} (run : List ℕ) (frames : List PlacedBody) (walked : ℕ)
    → AreIn as_of start bytes place old scan → IsRun run → ((all : List PlacedBody) → StandsFrom place all run → frames ≡ all)
    → length (spelling frames) ≤ length run → place + length run ≤ LONGEST_FILE → AreTakenIn as_of frames (2 ^ 64 - 1) walked scan new
    → AreIn as_of start (bytes ++ run) (place + length run) old new
more_in {as_of} {start} {place} {bytes} {old} {scan} {new} run frames walked so_far is_run only within fits taken =
    let next = frames_at (start + length bytes) run in
    let are : frames ≡ next =
    only next (subst (λ k. StandsFrom k next run) (sym so_far.place_is) (walk_stands (start + length bytes) run is_run.whole)) in
    let takes = subst (λ l. TakesIn as_of l scan new) are (takes_all as_of frames walked scan new taken (omega (arith, within, fits))) in record {
      whole = IsWhole-append bytes run so_far.whole is_run.whole;
      place_is = omega (arith, so_far.place_is, length-append bytes run);
      takes = subst (λ l. TakesIn as_of l old new) (sym (frames_more start bytes run so_far.whole is_run.whole))
          (takes_more as_of (frames_at start bytes) next old scan new so_far.takes takes);
    }

-- bytes that compare as equal are the same, one by one
pub same_bytes : (xs ys : List ℕ) (order : Ordering) → order ≡ slice_cmp nat_cmp xs ys → is_eq order ≡ pointwise nat_eq xs ys
same_bytes xs ys order is =
    same_from_slice_cmp nat_cmp is_eq (pointwise nat_eq) refl (λ y ys. refl) (λ x xs. refl) (λ x y xs ys o h. grind (arith, nat_tests)) xs ys order is
