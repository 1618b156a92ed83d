-- What a reader of batches has read, as it goes on.
use Rattle.std.proofs.Common.{◌≡◌, ℕ, ◌+◌, ◌≤◌, List, [], ◌++◌, length, All, Err, ap, subst, append_assoc, arith, inl}
use Rattle.std.specs.List.{concat}
use Rattle.std.proofs.lemmas.List.{length-append}
use Rattle.std.proofs.lemmas.List.Folds.{concat-append}
use Rattle.std.proofs.lemmas.List.Elements.{All-append}
use Rattle.cutting.specs.Cutting.{IsCutBy}
use Rattle.cutting.specs.Feeding.{CutterView, HasFed, IsFullRun, fed_length}
use Rattle.day_file.specs.Frames.{IsTruncatedAt}
use Rattle.sources.specs.Given.{GaveAll, IsDayRead}
use Rattle.sources.specs.declared.day_reading.ReadFault.{ReadFault}
use Rattle.sources.specs.declared.day_reading.ReadFault.TheVariants as read
use Rattle.sources.specs.declared.source.Source.{Ghosts as SourceOf}
use Rattle.cutting.proofs.Fed.{fed_length_is, truncated_after_full}
use Rattle.cutting.proofs.CutsBy.{cut_after}
use Rattle.streaming.specs.Batches.{HasRead, IsLastFault, IsReadTo, IsReading, ReaderView, read_length}
use Rattle.day_file.specs.Sources.{IsSourceFault, source_fault_of}
use Rattle.streaming.specs.Readings.{of_stream}
use Rattle.day_file.specs.declared.source_fault.SourceFault.{SourceFault}
use Rattle.day_file.specs.declared.source_fault.SourceFault.TheVariants as fault

-- the cutter of a reader was fed more
pub reading_on : {limit target start first : ℕ} {old new : CutterView} {fed : List ℕ} → IsReading limit target start first old → HasFed new fed
    → new.target ≡ target → start + fed_length new ≤ limit → IsReading limit target start first new
reading_on {fed = fed} inv has same within =
    record { fed = fed; has = has; same = same; target_is = inv.target_is; within = within; limit_is = inv.limit_is; few = inv.few }

-- so many bytes more
pub grown : {old new : CutterView} {fed : List ℕ} (taken : List ℕ) → HasFed old fed → HasFed new (fed ++ taken) → fed_length new ≡ fed_length old + length taken
grown {old} {new} {fed} taken was now = omega (arith, fed_length_is old fed was, fed_length_is new _ now, length-append fed taken)

-- the bytes that were read are so many
pub read_length_is : {reader : ReaderView} {runs : List (List ℕ)} {bytes : List ℕ} → HasRead reader runs bytes → read_length reader ≡ length bytes
read_length_is {reader} {runs} h =
    omega (arith, h.start, fed_length_is reader.cutter h.fed h.has, ap length h.joined, length-append (concat runs) h.fed)

module _ {S : Type 0} (stream : SourceOf S) where
  -- a reader that has read nothing, of a source that gave nothing yet
  pub read_to_none : (now : S) (reader : ReaderView) → stream.Gave now now [] → HasRead reader [] [] → IsReadTo stream now now [] reader
  read_to_none now reader gave has = record { bytes = []; gave = gave; has = has }

-- the source gives one piece more, and the cutter of a reader is fed it
pub read_on : {S : Type 0} (stream : SourceOf S)
    → ((a b c : S) (xs ys : List ℕ) → stream.Gave a b xs → stream.Gave b c ys → stream.Gave a c (xs ++ ys))
    → {before was now : S} {runs : List (List ℕ)} {reader : ReaderView} {cutter : CutterView} {piece : List ℕ} (to : IsReadTo stream before was runs reader)
    → stream.Gave was now piece → HasFed cutter (to.has.fed ++ piece) → IsReadTo stream before now runs (record reader { cutter = cutter })
read_on stream gave_more {runs = runs} {piece = piece} to gave has = record {
  bytes = to.bytes ++ piece;
  gave = gave_more _ _ _ _ _ to.gave gave;
  has = record {
    full = to.has.full;
    fed = to.has.fed ++ piece;
    has = has;
    joined = rw (← append_assoc) (ap (λ l. l ++ piece) to.has.joined);
    first = to.has.first;
    start = to.has.start;
  };
}

-- a batch is taken out
pub batch_taken : {reader : ReaderView} {cutter : CutterView} {runs : List (List ℕ)} (cut : List (List ℕ)) {bytes : List ℕ} → All (IsFullRun reader.target) cut
    → ((fed : List ℕ) → HasFed reader.cutter fed → (rest : List ℕ) × (fed ≡ concat cut ++ rest) × HasFed cutter rest) → HasRead reader runs bytes
    → HasRead (record reader { start = reader.start + length (concat cut); first = reader.first + length cut; cutter = cutter }) (runs ++ cut) bytes
batch_taken {reader} {runs = runs} cut full left h =
    let (rest, is, has) = left h.fed h.has in
    record {
      full = All-append (IsFullRun reader.target) runs cut h.full full;
      fed = rest;
      has = has;
      joined = rw (concat-append, append_assoc, ← is) h.joined;
      first = omega (arith, h.first, length-append runs cut);
      start = omega (arith, h.start, ap length (concat-append runs cut), length-append (concat runs) (concat cut));
    }

-- what a refused reading says of a source that is read in order
pub fault_is : {S : Type 0} (stream : SourceOf S) (limit target : ℕ) (before now : S) (f : ReadFault) → IsDayRead stream limit before now (Err f)
    → IsSourceFault (of_stream stream limit target before now) (source_fault_of f)
fault_is stream limit target before now read.ReadFailed told = told.0
fault_is stream limit target before now read.TooLong told = told.0
fault_is stream limit target before now read.OutOfMemory told = told.0

-- the source is at its end
module _ {S : Type 0} (stream : SourceOf S) {limit : ℕ} {before now : S} {runs : List (List ℕ)}
    {reader : ReaderView} (h : IsReadTo stream before now runs reader) (same : reader.cutter.target ≡ reader.target) (ended : stream.HasEnded now)
    (within : read_length reader ≤ limit) where
  gave_all : GaveAll stream limit before now h.bytes
  gave_all = record { gave = h.gave; ended = ended; within = omega (arith, within, read_length_is h.has) }

  behind : (cut : List (List ℕ)) → IsCutBy reader.cutter.target cut h.has.fed → IsCutBy reader.target (runs ++ cut) h.bytes
  behind cut made = rw h.has.joined (cut_after reader.target runs cut h.has.fed h.has.full (subst (λ n. IsCutBy n cut h.has.fed) same made))

  -- the rest is the last batch
  pub last_cut : (cut : List (List ℕ)) → ((fed : List ℕ) → HasFed reader.cutter fed → IsCutBy reader.cutter.target cut fed)
      → GaveAll stream limit before now (concat (runs ++ cut)) × IsCutBy reader.target (runs ++ cut) (concat (runs ++ cut))
  last_cut cut made =
      let all = behind cut (made h.has.fed h.has.has) in
      (subst (GaveAll stream limit before now) all.cut.joined gave_all, subst (IsCutBy reader.target (runs ++ cut)) all.cut.joined all)

  -- a refusal at the end
  pub last_fault : (f : SourceFault) → ((fed : List ℕ) → HasFed reader.cutter fed → IsLastFault reader.first reader.start reader.cutter.target fed f)
      → IsSourceFault (of_stream stream limit reader.target before now) f
  last_fault (fault.Truncated place) told =
      let (k, cut, at) = told h.has.fed h.has.has in
      let here : IsTruncatedAt h.bytes place = rw (at, h.has.joined, h.has.start) (truncated_after_full reader.target runs h.has.fed k h.has.full cut) in
      (h.bytes, gave_all, inl (place, here), here)
  last_fault fault.TooManyMorsels told =
      let (cut, made, many) = told h.has.fed h.has.has in
      (h.bytes, gave_all, (runs ++ cut, behind cut made, omega (arith, many, h.has.first, length-append runs cut)))
  last_fault fault.OutOfMemory told = record { bytes = h.bytes; gave = h.gave; within = omega (arith, gave_all.within) }
  last_fault fault.ReadFailed told = absurd (told h.has.fed h.has.has)
  last_fault fault.TooLong told = absurd (told h.has.fed h.has.has)
