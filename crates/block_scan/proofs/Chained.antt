-- Pieces that follow each other.
use Rattle.std.proofs.Common.{◌≡◌, ℕ, ◌+◌, ◌<◌, List, [], ◌∷◌, ◌++◌, length, take_at, drop_at, refl, sym, ap, ap₂, ◌∙◌, subst, arith, map, Result}
use Rattle.std.specs.List.{concat}
use Rattle.std.proofs.lemmas.List.{length-append, map_push}
use Rattle.std.proofs.lemmas.List.Elements.{All-push}
use Rattle.base.proofs.Lists.{concat_push, length-concat_push}
use Rattle.base.specs.Among.{AreBytes}
use Rattle.day_file.specs.Cuts.{IsRun, MorselView}
use Rattle.day_file.specs.Frames.{IsStuck, IsTruncatedAt, IsWhole, PlacedBody, StandsFrom}
use Rattle.day_file.specs.Kept.{numbered}
use Rattle.day_file.specs.Walk.{frames_of}
use Rattle.day_file.proofs.Walks.{frames_of_cut, walk_whole}
use Rattle.day_file.proofs.Joined.{IsWhole-spelling, truncated_later}
use Rattle.day_file.proofs.Kept.{numbered-last}
use Rattle.scanning.specs.Scans.{ScanInputView, ScanTotalView, inputs_of, scan_of, total_of, with_scan}
use Rattle.scanning.proofs.TotalOfScans.{total_more}
use Rattle.block_scan.specs.Blocks.{GaveWhole}
use Rattle.block_scan.specs.Pieces.{Asked, IsChained, IsPiece, IsTried}
use Rattle.day_file.specs.declared.source_fault.SourceFault.{SourceFault}
use Rattle.block_scan.specs.declared.scanned_block.ScannedBlock.{ScannedBlock}
use Rattle.block_scan.specs.declared.scanned_block.Tail.TheVariants.{Cut}
use Rattle.block_scan.specs.declared.request.Request.{Request}
use Rattle.block_scan.specs.declared.block_source.BlockSource.{Ghosts as BlockSourceOf}

-- ---- one run more

pub whole_run : (place : ℕ) (frames : List PlacedBody) (bytes : List ℕ) → StandsFrom place frames bytes → IsWhole bytes
whole_run place frames bytes s = subst IsWhole (sym s.whole) (IsWhole-spelling frames s.short)

-- the total with one run more, which stands behind the others
total_with : (request : Request) (place : ℕ) (runs : List (List ℕ)) (frames : List PlacedBody) (run : List ℕ) → StandsFrom place frames run
    → place ≡ length (concat runs)
    → total_of (inputs_of request.as_of request.parts (runs ++ run ∷ []))
    ≡ with_scan (total_of (inputs_of request.as_of request.parts runs)) (scan_of request.parts request.as_of frames)
total_with request place runs frames run stands here =
    let input : MorselView → ScanInputView = λ morsel. record { morsel = morsel; as_of = request.as_of; parts = request.parts } in
    let last : MorselView = record { number = 0 + length runs; start = 0 + length (concat runs); bytes = run } in
    let inputs : inputs_of request.as_of request.parts (runs ++ run ∷ []) ≡ inputs_of request.as_of request.parts runs ++ input last ∷ [] =
    ap (map input) (numbered-last 0 0 runs run) ∙ map_push input (numbered 0 0 runs) last in
    let at : place ≡ last.start = omega (arith, here) in
    let walked : frames_of last ≡ frames = walk_whole last.start run frames (subst (λ k. StandsFrom k frames run) at stands) in
    ap total_of inputs ∙ total_more (inputs_of request.as_of request.parts runs) (input last)
    ∙ ap (λ l. with_scan (total_of (inputs_of request.as_of request.parts runs)) (scan_of request.parts request.as_of l)) walked

-- ---- a piece more

module _ {S : Type 0} (device : BlockSourceOf S)
    (gave_more : (s : S) (place : ℕ) (xs ys : List ℕ) → device.GaveAt s place xs → device.GaveAt s (place + length xs) ys
    → device.GaveAt s place (xs ++ ys))
    (gave_front : (s : S) (place : ℕ) (xs ys : List ℕ) → device.GaveAt s place (xs ++ ys) → device.GaveAt s place xs)
    {source : S} {request : Request} {at : ℕ} {old : ScanTotalView} {piece : ScannedBlock} (chained : IsChained device source request at old)
    (is : IsPiece device source request piece) (begins : piece.start ≡ at) where
  -- bytes of the piece behind those of the runs
  gave_behind : (bytes : List ℕ) → device.GaveAt source piece.start bytes → device.GaveAt source 0 (concat chained.runs ++ bytes)
  gave_behind bytes gave =
      gave_more source 0 (concat chained.runs) bytes chained.gave (subst (λ k. device.GaveAt source k bytes) (omega (arith, chained.at_is, begins)) gave)

  -- with the piece, which has a frame
  pub chain_more : piece.start < piece.end → IsChained device source request piece.end (with_scan old piece.scanned)
  chain_more longer =
      let runs = chained.runs in
      let run = is.bytes in
      let one : IsRun run = record { some = omega (arith, longer, is.end_is); whole = whole_run piece.start is.frames run is.stands } in record {
        runs = runs ++ run ∷ [];
        each = All-push IsRun runs run chained.each one;
        bytes = All-push AreBytes runs run chained.bytes is.are;
        gave = rw concat_push (gave_behind run (gave_front source piece.start run is.rest is.gave));
        at_is = omega (arith, is.end_is, begins, chained.at_is, length-concat_push runs run);
        within = omega (arith, is.within);
        are = ap₂ with_scan chained.are is.scan ∙ sym (total_with request piece.start runs is.frames run is.stands (begins ∙ chained.at_is));
      }

  -- where it ends at a frame that is cut off, the source is truncated there
  pub chain_cut : piece.tail ≡ Cut → (day : List ℕ) × GaveWhole device request.limit source day × Unit {0} × IsTruncatedAt day piece.end
  chain_cut cut =
      let tail = is.cut cut in
      let before = concat chained.runs in
      let behind = is.bytes ++ is.rest in
      let day = before ++ behind in
      let long : length day ≡ piece.end + length is.rest =
      omega (arith, length-append before behind, length-append is.bytes is.rest, is.end_is, begins, chained.at_is) in
      let here : IsTruncatedAt behind (length is.bytes) = record {
        front = subst IsWhole (sym (take_at is.bytes is.rest (length is.bytes) refl)) (whole_run piece.start is.frames is.bytes is.stands);
        within = omega (arith, tail.0, length-append is.bytes is.rest);
        stuck = subst IsStuck (sym (drop_at is.bytes is.rest (length is.bytes) refl)) tail.1;
      } in
      let place : length before + length is.bytes ≡ piece.end = omega (arith, is.end_is, begins, chained.at_is) in
      let front : IsWhole before = (_, frames_of_cut chained.runs chained.each) in (
        day,
        record {
          gave = gave_behind behind is.gave;
          ended = subst (device.EndsAt source) (sym long) tail.2;
          within = omega (arith, long, is.within);
        },
        tt,
        subst (IsTruncatedAt day) place
            (truncated_later day (length before) (length is.bytes) (subst IsWhole (sym (take_at before behind (length before) refl)) front)
            (subst (λ l. IsTruncatedAt l (length is.bytes)) (sym (drop_at before behind (length before) refl)) here)),
      )

-- the same of another source, request and result
pub tried_of : {S : Type 0} (device : BlockSourceOf S) {a b : Asked S} {f g : Result ScannedBlock SourceFault} → a ≡ b → f ≡ g
    → IsTried device a.source a.request f → IsTried device b.source b.request g
tried_of {S} device {g = g} same results tried =
    subst (λ (x : Asked S). IsTried device x.source x.request g) same (subst (IsTried device _ _) results tried)
