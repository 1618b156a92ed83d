-- A text's front, as it is written in pieces.
use Rattle.std.proofs.Common.{◌≡◌, ◌+◌, ◌-◌, ◌<◌, ◌≤◌, ℕ, List, [], ◌++◌, get_or, length, take, drop, Vec, sym, ap, ◌∙◌, subst, arith}
use Rattle.std.proofs.Math.Seq.{take-add, take-append-add, take-length}
use Rattle.std.proofs.lemmas.List.{append-nil, append_assoc, length-append, length-drop, take-append-drop, take-append-le}
use Rattle.std.proofs.lemmas.List.Concat.{flat_map-append}
use Rattle.base.proofs.Lists.{flat_map_next}
use Rattle.sinks.specs.Written.{text_of}

-- all that stands from a place on
rest_is : (written : ℕ) (text : List ℕ) → take (length text - written) (drop written text) ≡ drop written text
rest_is written text = ap (λ n. take n (drop written text)) (sym (length-drop written text)) ∙ take-length (drop written text)

pub rest_length : (written : ℕ) (text : List ℕ) → length (take (length text - written) (drop written text)) ≡ length text - written
rest_length written text = ap length (rest_is written text) ∙ length-drop written text

-- a front, and the first bytes of the rest
pub front_grows : (Took : List ℕ → Type 0) (written count : ℕ) (text : List ℕ)
    → Took (take written text ++ take count (take (length text - written) (drop written text)))
    → Took (take (written + count) text)
front_grows Took written count text took =
    subst Took (ap (λ l. take written text ++ take count l) (rest_is written text) ∙ sym (take-add written count text)) took

pub front_stays : (Took : List ℕ → Type 0) (front : List ℕ) → Took (front ++ []) → Took front
front_stays Took front took = subst Took (append-nil front) took

pub whole_front : (Took : List ℕ → Type 0) (text : List ℕ) → Took (text ++ []) → Took (take (length text) text)
whole_front Took text took = subst Took (append-nil text ∙ sym (take-length text)) took

-- ---- pieces

module _ {Z : Type 0} (pieces : List (Vec ℕ Z)) where
  front_and_rest : (i : ℕ) (d : Vec ℕ Z) → i < length pieces
      → text_of pieces ≡ text_of (take i pieces) ++ ((get_or pieces i d).items ++ text_of (drop (i + 1) pieces))
  front_and_rest i d h =
      sym (ap text_of (take-append-drop (i + 1) pieces))
      ∙ flat_map-append (λ (p : Vec ℕ Z). p.items) (take (i + 1) pieces) (drop (i + 1) pieces)
      ∙ ap (λ l. l ++ text_of (drop (i + 1) pieces)) (flat_map_next (λ p. p.items) pieces i d h)
      ∙ append_assoc (text_of (take i pieces)) (get_or pieces i d).items (text_of (drop (i + 1) pieces))

  -- what is written stays within the whole
  pub count_within : (i written : ℕ) (piece : Vec ℕ Z) → i < length pieces → piece ≡ get_or pieces i piece
      → written ≡ length (text_of (take i pieces)) → written + length piece.items ≤ length (text_of pieces)
  count_within i written piece h at is =
      let rest = text_of (drop (i + 1) pieces) in
      let n = length-append (text_of (take i pieces)) ((get_or pieces i piece).items ++ rest) in
      let m = length-append (get_or pieces i piece).items rest in
      omega (arith, is, n, m, ap (λ (p : Vec ℕ Z). length p.items) at, ap length (front_and_rest i piece h))

  -- some of a piece
  pub part_written : (Took : List ℕ → Type 0) (i written part : ℕ) (piece : Vec ℕ Z) → i < length pieces → piece ≡ get_or pieces i piece
      → written ≡ length (text_of (take i pieces)) → part ≤ length piece.items → Took (text_of (take i pieces) ++ take part piece.items)
      → Took (take (written + part) (text_of pieces))
  part_written Took i written part piece h at is within took =
      let front = text_of (take i pieces) in
      let rest = text_of (drop (i + 1) pieces) in
      subst Took
      (sym (ap (λ n. take (n + part) (text_of pieces)) is ∙ ap (take (length front + part)) (front_and_rest i piece h)
      ∙ take-append-add front ((get_or pieces i piece).items ++ rest) part
      ∙ ap (λ (p : Vec ℕ Z). front ++ take part (p.items ++ rest)) (sym at)
      ∙ ap (λ l. front ++ l) (take-append-le part piece.items rest within))) took
