-- A text is parted at its first separator.
use Rattle.std.proofs.Common.{◌≡◌, ℕ, ◌+◌, ◌-◌, ◌^◌, ◌<◌, Bool, true, false, cond, List, [], ◌∷◌, length, take, drop, Option, Some, None, refl, ◌∙◌, subst}
use Rattle.std.proofs.Common.{arith, ltb, nat_lt, position, ◌==◌, MatchOption, Bor}
use Rattle.std.specs.List.{position_or_len}
use Rattle.std.proofs.lemmas.List.Splits.{slice_split_first, slice_split_none}
use Rattle.std.proofs.lemmas.List.{take_rest}
use Rattle.std.proofs.lemmas.Option.{cond_some}
use Rattle.std.proofs.lemmas.Bool.{cond-true, cond-false, false_from_ne_true}
use Rattle.std.proofs.lemmas.Bool.Decides.{nat_tests}
use Rattle.std.proofs.lemmas.List.Sums.{fails_before_first}
use borrow.Author.Tests.{ltb-true, ltb-false}
use Rattle.std.specs.Option.{option_map_or}
use Rattle.query.specs.Words.{Word, word, split_by, words_from}

-- the parts of what comes after a separator, if there was one
abbrev pub after_part : ℕ → Option (Bor (List ℕ)) → List (List ℕ)
after_part separator rest = option_map_or (λ r. split_by separator r.now) rest []

-- the words of what is left of a text, which begins at byte `at`
abbrev pub words_left : ℕ → Option (Bor (List ℕ)) → List Word
words_left at rest = option_map_or (λ r. words_from at r.now) rest []

-- what is left of a text lies in memory
abbrev pub IsInText : ℕ → Option (Bor (List ℕ)) → Type 0
IsInText at rest = MatchOption rest (Unit {0}) (λ r. at + length r.now < 2 ^ 63)

pub parts_at : (separator : ℕ) (text : List ℕ) (end : ℕ) → position (λ byte. byte == separator) text ≡ Some end
    → split_by separator text ≡ take end text ∷ split_by separator (take (length text - (end + 1)) (drop (end + 1) text))
parts_at separator text end e =
    let h = cond_some _ (position_or_len (λ byte. byte == separator) text) end e in
    let cut : split_by separator text ≡ take end text ∷ split_by separator (drop (end + 1) text) =
    subst (λ n. split_by separator text ≡ take n text ∷ split_by separator (drop (n + 1) text)) h.1
    (slice_split_first (λ byte. byte == separator) text 0 (ltb-true _ _ h.0)) in
    rw take_rest cut

pub parts_none : (separator : ℕ) (text : List ℕ) → position (λ byte. byte == separator) text ≡ None → split_by separator text ≡ text ∷ []
parts_none separator text e =
    let p : ℕ → Bool = λ byte. byte == separator in
    let past : ltb (position_or_len p text) (length text) ≡ false = false_from_ne_true _
    (λ within. absurd (cc (cond-true _ (Some (position_or_len p text)) None within))) in
    slice_split_none p text (λ k d before. fails_before_first p text k d (omega (arith, ltb-false _ _ past)))

-- how much is left
abbrev pub left : Option (Bor (List ℕ)) → ℕ
left None = 0
left (Some rest) = length rest.now + 1

-- the words of a text are its first part, if it isn't empty, and the words of what is left
pub words_cut : (at : ℕ) (text part : List ℕ) (rest : Option (Bor (List ℕ))) → split_by 32 text ≡ part ∷ after_part 32 rest
    → words_from at text
    ≡ cond (nat_lt 0 (length part)) (word at part ∷ words_left (at + (length part + 1)) rest) (words_left (at + (length part + 1)) rest)
unfolding words_from
words_cut at text part None e = rw e refl
words_cut at text part (Some rest) e = rw e refl

-- a part that isn't empty is the next word
pub next_word : (at : ℕ) (text part : List ℕ) (rest : Option (Bor (List ℕ))) → split_by 32 text ≡ part ∷ after_part 32 rest → length part == 0 ≡ false
    → words_from at text ≡ word at part ∷ words_left (at + (length part + 1)) rest
next_word at text part rest e some =
    let long : nat_lt 0 (length part) ≡ true = grind (arith, nat_tests) in words_cut at text part rest e ∙ cond-true _ _ _ long

-- an empty part is no word
pub no_word : (at : ℕ) (text part : List ℕ) (rest : Option (Bor (List ℕ))) → split_by 32 text ≡ part ∷ after_part 32 rest → length part == 0 ≡ true
    → words_from at text ≡ words_left (at + (length part + 1)) rest
no_word at text part rest e none =
    let short : nat_lt 0 (length part) ≡ false = grind (arith, nat_tests) in words_cut at text part rest e ∙ cond-false _ _ _ short

pub still_in_text : (at : ℕ) (text part : List ℕ) (rest : Option (Bor (List ℕ)))
    → MatchOption rest (length part ≡ length text) (λ r. length part + 1 + length r.now ≡ length text) → at + length text < 2 ^ 63
    → IsInText (at + (length part + 1)) rest
still_in_text at text part None h within = tt
still_in_text at text part (Some r) h within = omega arith

pub ruleset parting = (parts_at, parts_none)

pub ruleset cutting = (next_word, no_word, still_in_text)
