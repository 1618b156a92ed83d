-- What is told of a query's text over a day: a text, or a fault's line. Where both are written out, computing shows it.
use Rattle.std.proofs.Common.{◌≡◌, ℕ, Bool, true, false, nat_lt, List, Option, Some, None, Result, Ok, Err, refl}
use Rattle.std.specs.List.{list_all}
use Rattle.std.specs.Prelude.{⊤, if◌then◌else◌}
use Rattle.std.specs.Fmt.{digits as decimal_digits}
use Rattle.query.specs.Faults.{QueryFault, query, read_from, step}
use Rattle.query.specs.Grammar.{Means}
use Rattle.query.specs.Values.{clock_of, count_of, kinds_of, pair_at, symbols_of, time_of, unit_of}
use Rattle.query.specs.Words.{words_from, words_of}
use Rattle.query.proofs.MeaningOrFault.{means_from_read}
use Rattle.meaning.specs.Meaning.{Meaning, is_symbol}
use Rattle.itch_messages.specs.Body.{message_of_kind}
use Rattle.itch_messages.specs.Layout.{bytes_at, length_of, number_at}
use Rattle.time_and_sales.specs.Texts.{digits}
use Rattle.answers.specs.Answers.{DayFault, IsAnswer}
use Rattle.proved_cases.proofs.Computed.{answer_to, computed}
use Rattle.outcomes.specs.declared.run_fault.RunFault.TheVariants.{Day}
use Rattle.arguments.specs.FaultLines.{line_of}

-- the words mean a query, and the text is its answer over the file
pub record Prints (words file text : List ℕ) : Type 0 where
  pub query : Meaning
  pub meant : Means (words_of words) query
  pub answered : IsAnswer file query (Ok text)

-- the words mean a query, its answer over the file is a fault, and the line is that fault's
pub record Reports (words file line : List ℕ) : Type 0 where
  pub query : Meaning
  pub meant : Means (words_of words) query
  pub fault : DayFault
  pub answered : IsAnswer file query (Err fault)
  pub told : line_of (Day fault) ≡ line

-- ---- both, computed

-- the answer to what was read over a list of bytes
abbrev pub answer_of : Result Meaning QueryFault → List ℕ → Option (Result (List ℕ) DayFault)
answer_of (Err fault) file = None
answer_of (Ok query) file = if list_all (λ byte. nat_lt byte 256) file then Some (answer_to file query) else None

record IsTold (words file : List ℕ) (answer : Result (List ℕ) DayFault) : Type 0 where
  meaning : Meaning
  meant : Means (words_of words) meaning
  answered : IsAnswer file meaning answer

is_told : (words file : List ℕ) (answer : Result (List ℕ) DayFault) → answer_of (read_from query (words_of words)) file ≡ Some answer
    → IsTold words file answer
is_told words file answer e =
    let over : (meaning : Meaning) (bytes : Bool) → read_from query (words_of words) ≡ Ok meaning → list_all (λ byte. nat_lt byte 256) file ≡ bytes
    → (if bytes then Some (answer_to file meaning) else None) ≡ Some answer → IsTold words file answer = λ meaning. elim [
      | true ↦ λ read are e. record { meaning = meaning; meant = means_from_read meaning (words_of words) read; answered = computed meaning are (cc) }
      | false ↦ λ read are e. absurd (cc)
    ] in
    let go : (r : Result Meaning QueryFault) → read_from query (words_of words) ≡ r → answer_of r file ≡ Some answer
    → IsTold words file answer = elim [
      | Ok meaning ↦ λ read e. over meaning _ read refl e
      | Err fault ↦ λ read e. absurd (cc)
    ] in
    go (read_from query (words_of words)) refl e

pub printed : {words file text : List ℕ} → answer_of (read_from query (words_of words)) file ≡ Some (Ok text) → Prints words file text
printed {words} {file} {text} e = let t = is_told words file (Ok text) e in record { query = t.meaning; meant = t.meant; answered = t.answered }

-- the line of a fault that an answer is
abbrev pub line_if_fault : Option (Result (List ℕ) DayFault) → Option (List ℕ)
line_if_fault (Some (Err fault)) = Some (line_of (Day fault))
line_if_fault _ = None

pub reported : {words file line : List ℕ} → line_if_fault (answer_of (read_from query (words_of words)) file) ≡ Some line → Reports words file line
reported {words} {file} {line} e =
    let go : (o : Option (Result (List ℕ) DayFault)) → answer_of (read_from query (words_of words)) file ≡ o → line_if_fault o ≡ Some line
    → Reports words file line = elim [
      | Some (Err fault) ↦ λ is e. let t = is_told words file (Err fault) is in
          record { query = t.meaning; meant = t.meant; fault = fault; answered = t.answered; told = cc }
      | Some (Ok text) ↦ λ is e. absurd (cc)
      | None ↦ λ is e. absurd (cc)
    ] in
    go (answer_of (read_from query (words_of words)) file) refl e

-- what a proof unfolds to compute these: what reads a query, and what reads a day and writes numbers
unfoldable pub on_queries : ⊤
unfolding step read_from words_from count_of unit_of pair_at clock_of time_of symbols_of kinds_of is_symbol
on_queries = tt

unfoldable pub on_days : ⊤
unfolding on_queries message_of_kind length_of number_at bytes_at decimal_digits digits
on_days = tt
