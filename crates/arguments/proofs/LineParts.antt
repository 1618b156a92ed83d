-- A line that is put together part by part is the line of all parts.
use Rattle.std.proofs.Common.{◌≡◌, ◌++◌, ◌∷◌, [], ℕ, List, append_assoc}

-- a number between two texts
pub one_number : (old before number after line : List ℕ) → line ≡ ((old ++ before) ++ number) ++ after → line ≡ old ++ ((before ++ number) ++ after)
one_number old before number after line is_line = rw is_line (simp append_assoc)

-- and two parts more
pub two_more : (old before number after more rest first second third : List ℕ) → first ≡ ((old ++ before) ++ number) ++ after → second ≡ first ++ more
    → third ≡ second ++ rest → third ≡ old ++ ((((before ++ number) ++ after) ++ more) ++ rest)
two_more old before number after more rest first second third is_first is_second is_third =
    rw (is_third, is_second, is_first) (simp append_assoc)

-- and a letter more, and two numbers, each behind a text
pub two_lengths : (old before number after : List ℕ) (letter : ℕ) (wrong length but wanted first second third fourth : List ℕ)
    → first ≡ ((old ++ before) ++ number) ++ after → second ≡ first ++ (letter ∷ []) → third ≡ ((second ++ wrong) ++ length) ++ but
    → fourth ≡ third ++ wanted → fourth ≡ old ++ ((((((before ++ number) ++ after) ++ (letter ∷ wrong)) ++ length) ++ but) ++ wanted)
two_lengths old before number after letter wrong length but wanted first second third fourth is_first is_second is_third is_fourth =
    rw (is_fourth, is_third, is_second, is_first) (simp append_assoc)
