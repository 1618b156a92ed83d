-- The lines of bars, as they are written one by one.
use Rattle.std.proofs.Common.{◌≡◌, ◌+◌, ◌*◌, ◌^◌, ◌<◌, ◌≤◌, ℕ, Bool, List, [], ◌∷◌, ◌++◌, length, take, filter, sym, ap, ◌∙◌, arith, append_assoc}
use Rattle.std.proofs.Math.Seq.{take-append-add}
use Rattle.std.proofs.lemmas.List.{length-append, take-append-le}
use Rattle.std.proofs.lemmas.List.Concat.{flat_map-append}
use Rattle.std.proofs.lemmas.List.Sums.{count_by-le-length, length-filter}
use Rattle.base.proofs.Lists.{flat_map_push}
use Rattle.base.specs.declared.limits.TheConstants.{TRADE_LIMIT}
use Rattle.bar.specs.declared.bar.Bar.{Bar}
use Rattle.bars.specs.Texts.{bar_line, lines_text}

-- all bars: those whose lines are written, the next one, and the rest
module _ (name : ℕ → List ℕ) (all done rest : List Bar) (bar : Bar) (split : all ≡ done ++ bar ∷ rest) where
  abbrev line : List ℕ
  line = bar_line bar (name bar.locate)

  pub with_next : all ≡ (done ++ bar ∷ []) ++ rest
  with_next = split ∙ sym (append_assoc done (bar ∷ []) rest)

  pub lines_with_next : lines_text name (done ++ bar ∷ []) ≡ lines_text name done ++ line
  lines_with_next = flat_map_push (λ (b : Bar). bar_line b (name b.locate)) done bar

  lines_of_all : lines_text name all ≡ lines_text name done ++ (line ++ lines_text name rest)
  lines_of_all = ap (lines_text name) split ∙ flat_map-append (λ (b : Bar). bar_line b (name b.locate)) done (bar ∷ rest)

  -- some of the next line
  pub some_of_line : (count : ℕ) → count ≤ length line → take (length (lines_text name done) + count) (lines_text name all) ≡ lines_text name done ++ take count line
  some_of_line count within =
      ap (take (length (lines_text name done) + count)) lines_of_all
      ∙ take-append-add (lines_text name done) (line ++ lines_text name rest) count
      ∙ ap (λ l. lines_text name done ++ l) (take-append-le count line (lines_text name rest) within)

  pub within_all : (count : ℕ) → count ≤ length line → length (lines_text name done) + count ≤ length (lines_text name all)
  within_all count within =
      omega (arith, ap length lines_of_all, length-append (lines_text name done) (line ++ lines_text name rest), length-append line (lines_text name rest))

-- the lines of fewer bars than a file has room for, each of which is short
module _ (p : Bar → Bool) (bars done rest : List Bar) where
  pub few_bytes_in_all : (written : ℕ) → filter p bars ≡ done ++ rest → length bars < TRADE_LIMIT → written ≤ 224 * length done → written < 2 ^ 39
  few_bytes_in_all written split few short =
      omega (arith, length-filter p bars, count_by-le-length p bars, ap length split, length-append done rest)

  -- with the next line
  pub few_bytes : (bar : Bar) (written : ℕ) → filter p bars ≡ done ++ bar ∷ rest → length bars < TRADE_LIMIT → written ≤ 224 * (length done + 1) → written < 2 ^ 39
  few_bytes bar written split few short =
      omega (arith, length-filter p bars, count_by-le-length p bars, ap length split, length-append done (bar ∷ rest))
