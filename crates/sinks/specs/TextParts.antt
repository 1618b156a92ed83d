-- The texts of parts, together and of some parts that follow each other.
-- To be believed of a crate used by itself: a clause on a text that is written in parts is in these words.
use Rattle.std.specs.Prelude.{ℕ, List, Vec, drop, flat_map, map, take}

-- the text that some texts make, one after another
abbrev pub together : List (List ℕ) → List ℕ
together texts = flat_map (λ (text : List ℕ). text) texts

-- the texts of `count` parts, from the part `first` on
abbrev pub texts_in : List (List ℕ) → ℕ → ℕ → List (List ℕ)
texts_in texts first count = take count (drop first texts)

-- what some vectors hold
abbrev pub are_texts : {Z : Type 0} → List (Vec ℕ Z) → List (List ℕ)
are_texts {Z} vectors = map (λ (one : Vec ℕ Z). one.items) vectors
