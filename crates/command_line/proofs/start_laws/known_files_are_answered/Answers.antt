use Rattle.std.proofs.Common.{◌≡◌, ℕ, ◌<◌, ◌≤◌, ◌++◌, inl, inr, List, length, Option, None, Some, IsSomeAnd, MatchOption, Result, Ok, Err, arith, ap, sym, subst, ◌∙◌, append-nil}
use Rattle.std.proofs.lemmas.List.{length-append}
use Rattle.std.specs.Io.KnownBytes.{Consumes, IsAtEnd}
use Rattle.outcomes.specs.declared.day_fault.DayFault.{DayFault}
use Rattle.day_file.specs.Sources.{Reading}
use Rattle.runs.specs.Runs.{Answers, Ran}
use Rattle.outcomes.specs.declared.run_fault.RunFault.{RunFault}
use Rattle.command_line.specs.Outcomes.{Device, of_known, device}
use Rattle.std.specs.String.{string_bytes}
use Rattle.sources.specs.Given.{reader_of}
use Rattle.block_scan.proofs.KnownFiles.{known_byte, known_whole}
use Rattle.outcomes.specs.declared.run_fault.RunFault.TheVariants as fault
use Rattle.command_line.proofs.start_laws.known_files_are_answered.Goals as goal

module _ (reading : Reading) (limit : ℕ) (all : List ℕ) (whole : (day : List ℕ) → reading.all day → day ≡ all)
    (more : reading.longer → limit < length all) where
  answers : (words : List ℕ) (told : Result (List ℕ) DayFault) → Answers reading words told → Answers (of_known limit all) words told
  answers words told (query, means, (day, read, may, is)) = (query, means, (day, whole day read, tt, is))

  ran_over : (out : Device) (words : List ℕ) (outcome : Result (Unit {0}) RunFault)
      → Ran reading out.sink words limit out.before out.after outcome
      → Ran (of_known limit all) out.sink words limit out.before out.after outcome
  ran_over out words (Ok done) (text, is, took, flushed) = (text, answers words (Ok text) is, took, flushed)
  ran_over out words (Err (fault.Day f)) (is, left) = (answers words (Err f) is, left)
  ran_over out words (Err (fault.WriteFailed written)) (text, is, within, took) =
      (text, answers words (Ok text) is, within, took)
  ran_over out words (Err (fault.Query f)) (first, untouched, left) = (first, tt, left)
  ran_over out words (Err fault.ReadFailed) (means, failed, left) = (means, tt, left)
  ran_over out words (Err (fault.TooLong most)) (means, longer, is, left) = (means, more longer, is, left)
  ran_over out words (Err fault.TooManyMorsels) (means, many, left) = (means, tt, left)
  ran_over out words (Err fault.OutOfMemory) (inl (lists, untouched), some, left) = (inl (lists, tt), tt, left)
  ran_over out words (Err fault.OutOfMemory) (inr means, some, left) = (inr means, tt, left)

-- what a reader of known bytes gave up to its end is these bytes
all_consumed : (after : Option (List ℕ)) (all day : List ℕ) → Consumes (Some all) after day → IsAtEnd after → day ≡ all
all_consumed None all day gave ended = absurd gave
all_consumed (Some rest) all day gave ended = sym (gave ∙ (ap (λ r. day ++ r) ended ∙ append-nil day))

consumed_whole : (before after : Option (List ℕ)) (all day : List ℕ) → before ≡ Some all → Consumes before after day
    → IsAtEnd after → day ≡ all
consumed_whole before after all day known gave = all_consumed after all day (subst (λ b. Consumes b after day) known gave)

-- and what it gave isn't longer
some_consumed : (after : Option (List ℕ)) (all bytes : List ℕ) → Consumes (Some all) after bytes → length bytes ≤ length all
some_consumed None all bytes gave = absurd gave
some_consumed (Some rest) all bytes gave = omega (arith, ap length gave, length-append bytes rest)

consumed_within : (before after : Option (List ℕ)) (all bytes : List ℕ) → before ≡ Some all → Consumes before after bytes
    → length bytes ≤ length all
consumed_within before after all bytes known gave = some_consumed after all bytes (subst (λ b. Consumes b after bytes) known gave)

-- if opening gives a file that is known so, what was done over what it gave was done over such a file
opened_known : {F : Type 0} (N : Type 0) {Known Done : F → Type 0} (opened : Option F) → IsSomeAnd opened Known → MatchOption opened N Done
    → (file : F) × Known file × Done file
opened_known N None known done = absurd known
opened_known N (Some file) known done = (file, known, done)

pub returns : goal.returns
returns g c = λ files job was is before after status all holds (opened, opens, did).
    let (file, (rest, at), done) = opened_known _ opened (holds opened opens) did in
    let left = g.F.File.Read.remaining in
    elim done [
      | inl (order, told, tells, (outcome, ran, sink, told_status, reported)) ↦ (
        outcome,
        ran_over _ job.settings.limit all
            (λ day gave. known_whole (g.F.File.ReadsAt.contents file) all (at told tells) day gave.gave gave.ended)
            (λ (byte, gave). known_byte (g.F.File.ReadsAt.contents file) all (at told tells) job.settings.limit byte gave)
            (device g.K.Sink was is) (string_bytes job.query) outcome ran,
        sink,
        told_status,
        reported,
      )
      | inr (way, from, to, reader, fresh, ((outcome, ran, sink, told_status, reported), failed)) ↦ (
        outcome,
        ran_over _ job.settings.limit all
            (λ day gave. consumed_whole (left (reader_of from)) (left (reader_of to)) all day (ap left reader ∙ rest) gave.gave gave.ended)
            (λ gave. omega (
              arith,
              consumed_within (left (reader_of from)) (left (reader_of to)) all gave.bytes (ap left reader ∙ rest) gave.gave,
              gave.more,
            ))
            (device g.K.Sink was is) (string_bytes job.query) outcome ran,
        sink,
        told_status,
        reported,
      )
    ]
