-- The fields of a body: what was written is read, and what was read is written as it stood.
use Rattle.std.proofs.Common.{◌≡◌, ℕ, ◌+◌, ◌-◌, ◌^◌, ◌<◌, ◌≤◌, leb, true, List, [], ◌∷◌, ◌++◌, length, take, drop, sym, ap, ◌∙◌, arith}
use Rattle.std.proofs.Math.Seq.{drop-append-add}
use Rattle.std.proofs.lemmas.Bool.{leb-true}
use Rattle.std.proofs.lemmas.List.{length-drop, drop_all, drop-drop, length-take-le, take_at, take-append-drop}
use Rattle.std.proofs.lemmas.List.Elements.{All-drop}
use Rattle.byteorder.specs.Endian.{big_number}
use Rattle.byteorder.specs.Numbers.{big_from-lt, big_number-reads_back, length-bytes_high_first}
use Rattle.base.specs.Among.{AreBytes}
use Rattle.itch_messages.specs.Layout.{number_at, bytes_at, number_bytes}
use Rattle.itch_messages.specs.Body.{kind_of}
use Rattle.itch_messages.proofs.Numbers.{AreBytes-of_slice, byte_in, bytes_high_first-big_from}

-- ---- what is read of what was written

-- a number in its bytes
pub length-number_bytes : (width x : ℕ) → length (number_bytes width x) ≡ width
unfolding number_bytes
length-number_bytes width x = length-bytes_high_first width x

behind : (front rest : List ℕ) (offset : ℕ) → leb (length front) offset ≡ true → drop offset (front ++ rest) ≡ drop (offset - length front) rest
behind front rest offset h = grind (arith, leb-true, drop-append-add)

-- a number, and bytes, that stand behind the first byte, behind others, and here
pub number_behind : (front rest : List ℕ) (offset width : ℕ) → leb (length front) offset ≡ true
    → number_at offset width (front ++ rest) ≡ number_at (offset - length front) width rest
unfolding number_at
number_behind front rest offset width h = ap (big_number width) (behind front rest offset h)

pub bytes_behind : (front rest : List ℕ) (offset width : ℕ) → leb (length front) offset ≡ true
    → bytes_at offset width (front ++ rest) ≡ bytes_at (offset - length front) width rest
unfolding bytes_at
bytes_behind front rest offset width h = ap (take width) (behind front rest offset h)

-- behind one byte
pub number_behind_first : (first : ℕ) (rest : List ℕ) (offset width : ℕ) → leb 1 offset ≡ true
    → number_at offset width (first ∷ rest) ≡ number_at (offset - 1) width rest
number_behind_first first rest offset width h = number_behind (first ∷ []) rest offset width h

pub bytes_behind_first : (first : ℕ) (rest : List ℕ) (offset width : ℕ) → leb 1 offset ≡ true
    → bytes_at offset width (first ∷ rest) ≡ bytes_at (offset - 1) width rest
bytes_behind_first first rest offset width h = bytes_behind (first ∷ []) rest offset width h

pub number_here : (rest : List ℕ) (width x : ℕ) → x < 256 ^ width → number_at 0 width (number_bytes width x ++ rest) ≡ x
unfolding number_at number_bytes
number_here rest width x fits = big_number-reads_back width x rest fits

pub bytes_here : (text rest : List ℕ) (width : ℕ) → length text ≡ width → bytes_at 0 width (text ++ rest) ≡ text
unfolding bytes_at
bytes_here text rest width size = take_at text rest width size

pub ruleset reading = (number_behind_first, bytes_behind_first, number_behind, bytes_behind, number_here, bytes_here, length-number_bytes)

-- ---- what is written of what was read

part_and_rest : (offset width : ℕ) (body rest : List ℕ) → rest ≡ drop (offset + width) body → take width (drop offset body) ++ rest ≡ drop offset body
part_and_rest offset width body rest e =
    ap (λ l. take width (drop offset body) ++ l) (e ∙ sym (drop-drop width offset body)) ∙ take-append-drop width (drop offset body)

pub number_written : (offset width size : ℕ) (body rest : List ℕ) → AreBytes body → length body ≡ size → leb (offset + width) size ≡ true
    → rest ≡ drop (offset + width) body → number_bytes width (number_at offset width body) ++ rest ≡ drop offset body
unfolding number_at number_bytes
number_written offset width size body rest are long within e =
    let h : offset + width ≤ length body = omega (arith, leb-true _ _ within) in
    ap (λ l. l ++ rest) (bytes_high_first-big_from width (drop offset body) (All-drop (λ byte. byte < 256) offset body are) (rw length-drop (omega arith)))
    ∙ part_and_rest offset width body rest e

pub bytes_written : (offset width : ℕ) (body rest : List ℕ) → rest ≡ drop (offset + width) body → bytes_at offset width body ++ rest ≡ drop offset body
unfolding bytes_at
bytes_written offset width body rest e = part_and_rest offset width body rest e

pub none_written : (offset : ℕ) (body : List ℕ) → length body ≡ offset → [] ≡ drop offset body
none_written offset body h = sym (drop_all offset body (omega arith))

pub first_written : (body : List ℕ) (kind size : ℕ) (rest : List ℕ) → kind_of body ≡ kind → length body ≡ size → leb 1 size ≡ true → rest ≡ drop 1 body
    → kind ∷ rest ≡ body
first_written [] kind size rest is long some e = absurd (omega (arith, leb-true _ _ some))
first_written (x ∷ xs) kind size rest is long some e = λ i. sym is i ∷ e i

pub ruleset writing = (first_written, number_written, bytes_written, none_written)

-- ---- the room of what is read

pub number_at-lt : (offset width : ℕ) (body : List ℕ) → AreBytes body → number_at offset width body < 256 ^ width
unfolding number_at
number_at-lt offset width body are =
    big_from-lt 0 width (drop offset body) (λ k. byte_in (drop offset body) k (All-drop (λ byte. byte < 256) offset body are))

pub length-bytes_at : (offset width : ℕ) (body : List ℕ) → offset + width ≤ length body → length (bytes_at offset width body) ≡ width
unfolding bytes_at
length-bytes_at offset width body within = length-take-le width (drop offset body) (rw length-drop (omega arith))

pub ruleset fitting = (arith, number_at-lt, length-bytes_at, AreBytes-of_slice)
