-- What a piece has read and walked so far.
use Rattle.std.proofs.Common.{◌≡◌, ℕ, ◌+◌, ◌-◌, ◌<◌, ◌≤◌, List, [], ◌∷◌, ◌++◌, length, take, drop, sym, ap, ◌∙◌, subst, arith, append_assoc, take_at}
use Rattle.std.proofs.lemmas.List.{drop-take, length-append, length-drop, take-append-drop, take-append-le, length-take-le}
use Rattle.std.proofs.lemmas.List.Elements.{All-append, All-drop, All-take}
use Rattle.std.proofs.Math.Seq.{take-append-add}
use borrow.Rule.Slice.PartMut.{put_mid, same_len_mid}
use lib.Seq.{paste}
use Rattle.base.specs.Among.{AreBytes}
use Rattle.day_file.specs.Frames.{PlacedBody, IsStuck, StandsFrom}
use Rattle.day_file.proofs.Joined.{StandsFrom-append}
use Rattle.scanning.specs.Scans.{ScanView, scan_of}
use Rattle.day_file.specs.declared.frame.TheConstants.{LONGEST_FRAME}
use Rattle.day_file.proofs.Readings.{IsReading}
use Rattle.scanning.specs.Scans.{AreTakenIn}
use Rattle.block_scan.specs.Pieces.{IsAskable, IsPiece}
use Rattle.block_scan.specs.declared.block_source.BlockSource.{Ghosts as BlockSourceOf}
use Rattle.block_scan.specs.declared.scanned_block.Tail.{Tail}
use Rattle.block_scan.specs.declared.scanned_block.Tail.TheVariants.{Whole, Cut}
use Rattle.block_scan.proofs.Walked.{IsWalked, stuck_short, walked_of}
use Rattle.block_scan.specs.declared.request.Request.{Request}

-- the bytes of whole frames from the start on were read and walked, and behind them those that the buffer begins with were read
pub record IsFilling {S : Type 0} (GaveAt : S → ℕ → List ℕ → Type 0) (source : S) (request : Request) (start target place filled : ℕ) (buffer : List ℕ)
    (scan : ScanView) : Type 0 where
  pub frames : List PlacedBody
  pub bytes : List ℕ
  pub room : LONGEST_FRAME < length buffer
  pub filled_is : length (take filled buffer) ≡ filled
  pub held : AreBytes (take filled buffer)
  pub gave : GaveAt source start (bytes ++ take filled buffer)
  pub stands : StandsFrom start frames bytes
  pub are : AreBytes bytes
  pub place_is : place ≡ start + length bytes
  pub within : place + filled ≤ request.limit
  pub scan_is : scan ≡ scan_of request.parts request.as_of frames
  pub stuck : place < target → IsStuck (take filled buffer)
  pub short : place < target → filled ≤ LONGEST_FRAME

-- the bytes between two places are moved to the front
pub moved : (all : List ℕ) (from to : ℕ) → from ≤ to → to ≤ length all → take (to - from) (paste all 0 (drop from all) (to - from)) ≡ drop from (take to all)
moved all from to up within =
    take_at (take (to - from) (drop from all)) _ (to - from) (length-take-le (to - from) (drop from all) (omega (arith, length-drop from all, up, within)))
    ∙ sym (drop-take from (to - from) all) ∙ ap (λ n. drop from (take n all)) (omega (arith, up))

-- what is read goes behind what the buffer begins with
pub filled_more : (buffer into : List ℕ) (filled room count : ℕ) → count ≤ length into → length (take filled buffer) ≡ filled
    → take (filled + count) (put_mid filled room buffer into) ≡ take filled buffer ++ take count into
filled_more buffer into filled room count few long =
    ap (λ k. take (k + count) (put_mid filled room buffer into)) (sym long)
    ∙ take-append-add (take filled buffer) (into ++ _) count ∙ ap (λ l. take filled buffer ++ l) (take-append-le count into _ few)

module _ {S : Type 0} (GaveAt : S → ℕ → List ℕ → Type 0)
    (gave_more : (s : S) (place : ℕ) (xs ys : List ℕ) → GaveAt s place xs → GaveAt s (place + length xs) ys → GaveAt s place (xs ++ ys)) where
  -- the bytes of a reading behind what was read
  gave_on : (source : S) (start place filled : ℕ) (bytes rest piece : List ℕ) → GaveAt source start (bytes ++ rest) → place ≡ start + length bytes
      → length rest ≡ filled → GaveAt source (place + filled) piece → GaveAt source start (bytes ++ (rest ++ piece))
  gave_on source start place filled bytes rest piece p here n q =
      let at : place + filled ≡ start + length (bytes ++ rest) = omega (arith, here, n, length-append bytes rest) in
      subst (GaveAt source start) (append_assoc bytes rest piece) (gave_more source start (bytes ++ rest) piece p (subst (λ k. GaveAt source k piece) at q))

  -- a turn of the loop: some bytes more are in the buffer, which now begins with all, and of those some were walked and the others kept
  pub fills_more : {source : S} {request : Request} {start target place filled walked : ℕ} (count : ℕ) {buffer all last piece : List ℕ} {scan new : ScanView}
      → IsAskable request → IsFilling GaveAt source request start target place filled buffer scan → GaveAt source (place + filled) piece
      → all ≡ take filled buffer ++ piece → length all ≡ filled + count → place + filled + count ≤ request.limit
      → AreBytes all → IsWalked request.as_of all place target walked scan new → take (filled + count - walked) last ≡ drop walked all
      → length last ≡ length buffer
      → IsFilling GaveAt source request start target (place + walked) (filled + count - walked) last new
  fills_more {source} {request} {start} {place = place} {filled = filled} {walked = walked} count {buffer} {all} {last} {piece} ask old gave all_is n fits
      are_all w kept long =
      let halves : all ≡ take walked all ++ drop walked all = sym (take-append-drop walked all) in
      let whole : GaveAt source start (old.bytes ++ all) = subst (λ l. GaveAt source start (old.bytes ++ l)) (sym all_is)
      (gave_on source start place filled old.bytes (take filled buffer) piece old.gave old.place_is old.filled_is gave) in
      let front : length (take walked all) ≡ walked = length-take-le walked all w.within in
      record {
        frames = old.frames ++ w.frames;
        bytes = old.bytes ++ take walked all;
        room = omega (arith, long, old.room);
        filled_is = omega (arith, ap length kept, length-drop walked all, n);
        held = subst AreBytes (sym kept) (All-drop (λ byte. byte < 256) walked all are_all);
        gave = subst (GaveAt source start)
            (ap (λ l. old.bytes ++ l) halves ∙ sym (append_assoc old.bytes (take walked all) (drop walked all))
            ∙ ap (λ l. (old.bytes ++ take walked all) ++ l) (sym kept)) whole;
        stands = StandsFrom-append start old.frames w.frames old.bytes (take walked all) old.stands
            (subst (λ k. StandsFrom k w.frames (take walked all)) old.place_is w.stands);
        are = All-append (λ byte. byte < 256) old.bytes (take walked all) old.are (All-take (λ byte. byte < 256) walked all are_all);
        place_is = omega (arith, old.place_is, length-append old.bytes (take walked all), front);
        within = omega (arith, fits, n, w.within);
        scan_is = w.takes request.parts old.frames ask.some ask.most old.scan_is;
        stuck = λ h. subst IsStuck (sym kept) (w.ends h);
        short = λ h. omega (arith, n, length-drop walked all, stuck_short (drop walked all) (All-drop (λ byte. byte < 256) walked all are_all) (w.ends h));
      }

  -- a turn of the loop: some bytes more are read behind those that the buffer begins with, and the frames of all are
  -- walked; what is behind the walked ones is moved to the buffer's front
  pub turned : (into : List ℕ) {source : S} {request : Request} {start target place filled room count walked : ℕ} {buffer last rest : List ℕ}
      {all : List PlacedBody} {scan new : ScanView} → IsAskable request → IsFilling GaveAt source request start target place filled buffer scan
      → filled ≤ LONGEST_FRAME → room ≡ length buffer - filled → length into ≡ length (take room (drop filled buffer)) → count ≤ length into
      → GaveAt source (place + filled) (take count into) → AreBytes (take count into) → place + filled + count ≤ request.limit
      → IsReading place (take (filled + count) (put_mid filled room buffer into)) all rest
      → AreTakenIn request.as_of all (target - place) walked scan new
      → last ≡ paste (put_mid filled room buffer into) 0 (drop walked (put_mid filled room buffer into)) (filled + count - walked)
      → length last ≡ length (put_mid filled room buffer into)
      → IsFilling GaveAt source request start target (place + walked) (filled + count - walked) last new
  turned into {target = target} {place} {filled} {room} {count} {walked} {buffer} {last} ask old below room_is long few gave are within read taken kept same =
      let mid = put_mid filled room buffer into in
      let all_is : take (filled + count) mid ≡ take filled buffer ++ take count into = filled_more buffer into filled room count few old.filled_is in
      let n : length (take (filled + count) mid) ≡ filled + count =
      omega (arith, ap length all_is, length-append (take filled buffer) (take count into), old.filled_is, length-take-le count into few) in
      let mid_is : length mid ≡ length buffer = same_len_mid filled room buffer into long in
      let behind_is : length (take room (drop filled buffer)) ≡ room =
      length-take-le room (drop filled buffer) (omega (arith, length-drop filled buffer, room_is)) in
      let w = walked_of read taken in
      fills_more count ask old gave all_is n within
      (rw all_is (All-append (λ byte. byte < 256) (take filled buffer) (take count into) old.held are)) w
      (ap (take (filled + count - walked)) kept ∙ moved mid walked (filled + count) (omega (arith, w.within, n)) (omega (arith, mid_is, few, long, behind_is, room_is, below, old.room)))
      (same ∙ mid_is)

-- ---- where a piece ends

-- what was read so far, as a piece that ends here
pub piece_of : {S : Type 0} (device : BlockSourceOf S) {source : S} {request : Request} {start target place filled : ℕ} {buffer : List ℕ} {scan : ScanView}
    (tail : Tail) → IsFilling device.GaveAt source request start target place filled buffer scan → (tail ≡ Whole → device.EndsAt source place)
    → (tail ≡ Cut → (0 < filled) × (place < target) × device.EndsAt source (place + filled))
    → IsPiece device source request (record { start = start; end = place; scanned = scan; tail = tail })
piece_of device {source} {place = place} {filled} {buffer} tail i ended cut = record {
  frames = i.frames;
  bytes = i.bytes;
  rest = take filled buffer;
  gave = i.gave;
  stands = i.stands;
  are = i.are;
  end_is = i.place_is;
  within = omega (arith, i.within, i.filled_is);
  scan = i.scan_is;
  ended = ended;
  cut = λ e. (
    omega (arith, i.filled_is, (cut e).0),
    i.stuck (cut e).1,
    subst (λ n. device.EndsAt source (place + n)) (sym i.filled_is) (cut e).2,
  );
}

-- ---- a byte behind the limit

one_byte : (P : List ℕ → Type 0) (bytes : List ℕ) → length bytes ≡ 1 → P bytes → (byte : ℕ) × P (byte ∷ [])
one_byte P [] n p = absurd (omega (arith, n))
one_byte P (byte ∷ []) n p = (byte, p)
one_byte P (byte ∷ next ∷ bytes) n p = absurd (omega (arith, n))

-- where bytes were read that end one behind the limit, the last of them stands at the limit
pub gave_last : {S : Type 0} (GaveAt : S → ℕ → List ℕ → Type 0)
    (gave_back : (s : S) (place : ℕ) (xs ys : List ℕ) → GaveAt s place (xs ++ ys) → GaveAt s (place + length xs) ys)
    (source : S) (limit place : ℕ) (bytes : List ℕ) → place ≤ limit → place + length bytes ≡ limit + 1 → GaveAt source place bytes
    → (byte : ℕ) × GaveAt source limit (byte ∷ [])
gave_last GaveAt gave_back source limit place bytes within past gave =
    let n = limit - place in
    let front : length (take n bytes) ≡ n = length-take-le n bytes (omega (arith, past)) in
    let here : place + length (take n bytes) ≡ limit = omega (arith, front, within) in
    let back = gave_back source place (take n bytes) (drop n bytes) (subst (GaveAt source place) (sym (take-append-drop n bytes)) gave) in
    let one : length (drop n bytes) ≡ 1 = omega (arith, length-drop n bytes, past, within) in
    one_byte (GaveAt source limit) (drop n bytes) one (subst (λ k. GaveAt source k (drop n bytes)) here back)
