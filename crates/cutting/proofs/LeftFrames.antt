-- One frame alone, and what whole frames leave of whole frames.
use Rattle.std.proofs.Common.{◌≡◌, ℕ, ◌+◌, ◌-◌, ◌≤◌, List, [], ◌∷◌, ◌++◌, take, drop, sym, ap, ◌∙◌, subst, append_assoc, append-nil, arith}
use Rattle.std.proofs.lemmas.List.{length-append, drop-take, take-append-drop, take-take}
use Rattle.std.proofs.lemmas.List.Elements.{All-cons, All-nil}
use Rattle.day_file.specs.Frames.{PlacedBody, frame_of, spelling, IsShort, IsWhole}
use Rattle.day_file.proofs.Joined.{IsWhole-spelling}
use Rattle.day_file.proofs.Readings.{AreShort, head_apart, head_short, tail_short}

pub one_frame : (body : List ℕ) → IsShort body → IsWhole (frame_of body)
one_frame body h =
    rw append-nil at (IsWhole-spelling (record { place = 0; body = body } ∷ []) (All-cons (λ frame. IsShort frame.body) _ [] h (All-nil _)))

rest_spelled : (front all : List PlacedBody) (rest : List ℕ) → AreShort front → AreShort all → spelling all ≡ spelling front ++ rest → IsWhole rest
rest_spelled [] all rest hf ha e = subst IsWhole e (IsWhole-spelling all ha)
rest_spelled (g ∷ front) [] rest hf ha e = grind (arith, length-append)
rest_spelled (g ∷ front) (f ∷ all) rest hf ha e =
    let apart = head_apart f.body g.body (spelling all) (spelling front ++ rest) (head_short f all ha) (head_short g front hf)
    (e ∙ append_assoc (frame_of g.body) (spelling front) rest) in
    rest_spelled front all rest (tail_short g front hf) (tail_short f all ha) apart.1

pub IsWhole-rest : (n : ℕ) (bytes : List ℕ) → IsWhole bytes → IsWhole (take n bytes) → IsWhole (drop n bytes)
IsWhole-rest n bytes w f =
    rest_spelled f.0 w.0 (drop n bytes) f.1.short w.1.short (sym w.1.whole ∙ sym (take-append-drop n bytes) ∙ ap (λ l. l ++ drop n bytes) f.1.whole)

pub IsWhole-between : (start end : ℕ) (bytes : List ℕ) → start ≤ end → IsWhole (take start bytes) → IsWhole (take end bytes)
    → IsWhole (take (end - start) (drop start bytes))
IsWhole-between start end bytes h f w =
    let n : start + (end - start) ≡ end = omega arith in
    rw (← drop-take start (end - start) bytes, n) (IsWhole-rest start (take end bytes) w (rw take-take f))
