-- A text that is written in parts: the parts so far, one more, and how far it was written where a sink failed.
use Rattle.std.proofs.Common.{◌≡◌, ℕ, suc, ◌+◌, ◌-◌, ◌<◌, ◌≤◌, List, [], ◌∷◌, ◌++◌, Vec, Result, Ok, Err, append-nil, length, get_or, take, drop, refl, sym, ap, ◌∙◌, subst, arith}
use Rattle.std.proofs.Math.Seq.{take-add, take-append-add}
use Rattle.std.proofs.lemmas.List.{append_assoc, drop_more, get_or-drop, length-append, length-drop}
use Rattle.std.proofs.lemmas.List.{take-append-drop, take-append-le, take_all, take_more}
use Rattle.std.proofs.lemmas.List.Concat.{flat_map-append}
use Rattle.base.proofs.Lists.{flat_map_next}
use Rattle.sinks.specs.TextParts.{are_texts, texts_in, together}
use Rattle.sinks.specs.Written.{IsWritten, text_of}
use Rattle.sinks.specs.declared.delivering.WriteFailed.{WriteFailed}
use Rattle.sinks.specs.declared.sink.Sink.{Ghosts as SinkOf}
use Rattle.std.specs.Result.{IfErr, is_err}

-- what some vectors hold is what their texts make
pub text_of_texts : {Z : Type 0} (vectors : List (Vec ℕ Z)) → text_of vectors ≡ together (are_texts vectors)
text_of_texts [] = refl
text_of_texts (vector ∷ vectors) = ap (λ l. vector.items ++ l) (text_of_texts vectors)

suc_is : (m : ℕ) → m + 1 ≡ suc m
suc_is m = omega arith

abbrev same : List ℕ → List ℕ
same text = text

module _ (all : List (List ℕ)) (first : ℕ) where
  within : (count : ℕ) → first + count ≤ length all → count ≤ length (drop first all)
  within count h = omega (arith, h, length-drop first all)

  -- one part more
  pub one_more : (k : ℕ) → first + (k + 1) ≤ length all → texts_in all first (k + 1) ≡ texts_in all first k ++ get_or all (first + k) [] ∷ []
  one_more k h =
      take_more (drop first all) k [] (omega (arith, within (k + 1) h))
      ∙ ap (λ t. texts_in all first k ++ t ∷ []) (get_or-drop first all k [])

  pub more_text : (k : ℕ) → first + (k + 1) ≤ length all → together (texts_in all first (k + 1)) ≡ together (texts_in all first k) ++ get_or all (first + k) []
  more_text k h =
      flat_map_next same (drop first all) k [] (omega (arith, within (k + 1) h))
      ∙ ap (λ t. together (texts_in all first k) ++ t) (get_or-drop first all k [])

  -- what comes behind some parts, and one more
  abbrev pub rest_of : ℕ → ℕ → List ℕ
  rest_of k count = together (take (count - (k + 1)) (drop (k + 1) (drop first all)))

  pub and_rest : (k count : ℕ) → k < count → first + count ≤ length all
      → together (texts_in all first count) ≡ together (texts_in all first k) ++ (get_or all (first + k) [] ++ rest_of k count)
  and_rest k count h few =
      let xs = drop first all in
      let m = count - (k + 1) in
      ap (λ n. together (take n xs)) (omega (arith, h))
      ∙ ap together (take-add k (m + 1) xs)
      ∙ flat_map-append same (take k xs) (take (m + 1) (drop k xs))
      ∙ ap (λ l. together (take k xs) ++ together (take (m + 1) l)) (drop_more xs k [] (omega (arith, h, within count few)))
      ∙ ap (λ n. together (take k xs) ++ together (take n (get_or xs k [] ∷ drop (k + 1) xs))) (suc_is m)
      ∙ ap (λ t. together (take k xs) ++ (t ++ rest_of k count)) (get_or-drop first all k [])

-- ---- behind a header

module _ (header : List ℕ) (all : List (List ℕ)) where
  abbrev pub so_far : ℕ → List ℕ
  so_far done = header ++ together (take done all)

  -- some parts more
  pub further : (done count : ℕ) → so_far (done + count) ≡ so_far done ++ together (texts_in all done count)
  further done count =
      ap (λ l. header ++ together l) (take-add done count all)
      ∙ ap (λ l. header ++ l) (flat_map-append same (take done all) (texts_in all done count))
      ∙ sym (append_assoc header (together (take done all)) (together (texts_in all done count)))

  -- what comes behind them
  abbrev pub rest_behind : ℕ → ℕ → List ℕ
  rest_behind done count = together (drop (done + count) all)

  pub whole_is : (done count : ℕ) → header ++ together all ≡ so_far done ++ (together (texts_in all done count) ++ rest_behind done count)
  whole_is done count =
      ap (λ l. header ++ together l) (sym (take-append-drop (done + count) all))
      ∙ ap (λ l. header ++ l) (flat_map-append same (take (done + count) all) (drop (done + count) all))
      ∙ sym (append_assoc header (together (take (done + count) all)) (rest_behind done count))
      ∙ ap (λ l. l ++ rest_behind done count) (further done count)
      ∙ append_assoc (so_far done) (together (texts_in all done count)) (rest_behind done count)

  pub all_so_far : (done : ℕ) → length all ≤ done → so_far done ≡ header ++ together all
  all_so_far done h = ap (λ l. header ++ together l) (take_all done all h)

-- some of a part, behind those before it
pub part_taken : (Took : List ℕ → Type 0) (front piece rest whole : List ℕ) (written part : ℕ) → whole ≡ front ++ (piece ++ rest)
    → written ≡ length front → part ≤ length piece → Took (front ++ take part piece) → (written + part ≤ length whole) × Took (take (written + part) whole)
part_taken Took front piece rest whole written part is count few took =
    let n = length-append front (piece ++ rest) in
    let m = length-append piece rest in (
      omega (arith, ap length is, n, m, count, few),
      subst Took
          (sym (ap (λ n. take (n + part) whole) count ∙ ap (take (length front + part)) is
          ∙ take-append-add front (piece ++ rest) part
          ∙ ap (λ l. front ++ l) (take-append-le part piece rest few))) took,
    )

-- a text that was taken whole, and is passed on or not
pub passed_on : {K : Type 0} (sink : SinkOf K) (before after : K) (whole : List ℕ) (written : ℕ) (result : Result (Unit {0}) WriteFailed)
    → sink.Took before after (whole ++ []) → written ≡ length whole → sink.has_failed after ≡ is_err result
    → IfErr result (λ failed. failed.written ≡ written) → IsWritten sink before after whole result
passed_on sink before after whole written (Ok done) took count failed all =
    (subst (sink.Took before after) (append-nil whole) took, failed)
passed_on sink before after whole written (Err refused) took count failed all = (
  omega (arith, count, all),
  subst (sink.Took before after) (append-nil whole ∙ sym (take_all refused.written whole (omega (arith, count, all)))) took,
  failed,
)
