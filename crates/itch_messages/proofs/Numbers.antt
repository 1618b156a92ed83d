-- That n bytes are the bytes of their number, and a number in n bytes is below 256 ^ n.
use Rattle.std.proofs.Common.{◌≡◌, ℕ, zero, suc, ◌+◌, ◌-◌, ◌*◌, ◌/◌, ◌^◌, ◌<◌, ◌≤◌, List, [], ◌∷◌, ◌++◌, length, take, drop, get_or, refl, sym, ap, subst, ◌∙◌}
use Rattle.std.proofs.Common.{Fits, w8, arith}
use Rattle.std.proofs.Math.Nat.{mod-lt}
use Rattle.std.proofs.lemmas.Nat.{same_from_place}
use Rattle.std.proofs.lemmas.List.{append-nil, get_or_default, get_or_past, length-take-le}
use Rattle.std.proofs.lemmas.List.Elements.{All-cons, All-nil, All-tail, All-take}
use Rattle.std.specs.Prelude.{slice_index}
use Rattle.std.specs.Int.{byte_at, bytes_high_first}
use Rattle.byteorder.specs.Endian.{big_from}
use Rattle.byteorder.specs.Numbers.{big_from-cons, big_from-lt, big_from-take, big_number-reads_back, length-bytes_high_first}
use Rattle.base.specs.Among.{AreBytes}

-- each number of the list is a byte, and so is the 0 past its end
pub byte_in : (xs : List ℕ) (k : ℕ) → AreBytes xs → slice_index xs k < 256
byte_in xs k are = grind (arith, get_or_past, are k 0)

-- a slice of bytes has bytes
pub AreBytes-of_slice : (xs : List ℕ) → ((k : ℕ) → Fits w8 (get_or xs k 0)) → AreBytes xs
AreBytes-of_slice xs each k d within = omega (arith, each k, get_or_default xs k d 0 within)

-- the bytes of a number are bytes
byte_at-lt : (k x : ℕ) → byte_at k x < 256
byte_at-lt zero x = mod-lt x (omega arith)
byte_at-lt (suc k) x = mod-lt (x / 256 ^ suc k) (omega arith)

pub AreBytes-bytes_high_first : (n x : ℕ) → AreBytes (bytes_high_first n x)
AreBytes-bytes_high_first zero x = All-nil _
AreBytes-bytes_high_first (suc n) x = grind (arith, All-cons, byte_at-lt, AreBytes-bytes_high_first n x)

-- n bytes that spell one number are one list
pub big_from-tells_apart : (n : ℕ) (xs ys : List ℕ) → length xs ≡ n → length ys ≡ n → AreBytes xs → AreBytes ys → big_from 0 n xs ≡ big_from 0 n ys → xs ≡ ys
big_from-tells_apart n [] [] lx ly bx by same = refl
big_from-tells_apart n [] (y ∷ ys) lx ly bx by same = absurd (omega arith)
big_from-tells_apart n (x ∷ xs) [] lx ly bx by same = absurd (omega arith)
big_from-tells_apart zero (x ∷ xs) (y ∷ ys) lx ly bx by same = absurd (omega arith)
big_from-tells_apart (suc n) (x ∷ xs) (y ∷ ys) lx ly bx by same =
    let tx = All-tail (λ byte. byte < 256) x xs bx in
    let ty = All-tail (λ byte. byte < 256) y ys by in
    let moved : x * 256 ^ n + big_from 0 n xs ≡ y * 256 ^ n + big_from 0 n ys = omega (arith, same, big_from-cons 0 n x xs, big_from-cons 0 n y ys) in
    let parts = same_from_place x (big_from 0 n xs) y (big_from 0 n ys) (256 ^ n) (big_from-lt 0 n xs (λ k. byte_in xs k tx))
    (big_from-lt 0 n ys (λ k. byte_in ys k ty)) moved in
    let rest = big_from-tells_apart n xs ys (omega arith) (omega arith) tx ty parts.1 in
    λ i. parts.0 i ∷ rest i

-- the first n bytes of a list are the bytes of the number that they spell
pub bytes_high_first-big_from : (n : ℕ) (xs : List ℕ) → AreBytes xs → n ≤ length xs → bytes_high_first n (big_from 0 n xs) ≡ take n xs
bytes_high_first-big_from n xs are within =
    let number : ℕ = big_from 0 n xs in
    let fits : number < 256 ^ n = big_from-lt 0 n xs (λ k. byte_in xs k are) in
    let read : big_from 0 n (bytes_high_first n number ++ []) ≡ number = big_number-reads_back n number [] fits in
    let back : big_from 0 n (bytes_high_first n number) ≡ number = rw append-nil at read in
    let front : big_from 0 n (take n xs) ≡ number = big_from-take 0 n n xs (omega arith) in
    big_from-tells_apart n (bytes_high_first n number) (take n xs) (length-bytes_high_first n number)
    (length-take-le n xs within) (AreBytes-bytes_high_first n number) (All-take (λ byte. byte < 256) n xs are) (back ∙ sym front)

-- the last bytes of a number are the bytes of so many
drop_bytes : (k width x : ℕ) → drop k (bytes_high_first (k + width) x) ≡ bytes_high_first width x
drop_bytes zero width x = ap (λ n. bytes_high_first n x) (omega arith)
drop_bytes (suc k) width x = let more : suc k + width ≡ suc (k + width) = omega arith in
    subst (λ n. drop (suc k) (bytes_high_first n x) ≡ bytes_high_first width x) (sym more) (drop_bytes k width x)

pub low_bytes : (width x : ℕ) → width ≤ 8 → drop (8 - width) (bytes_high_first 8 x) ≡ bytes_high_first width x
low_bytes width x h = let all : (8 - width) + width ≡ 8 = omega arith in
    subst (λ n. drop (8 - width) (bytes_high_first n x) ≡ bytes_high_first width x) all (drop_bytes (8 - width) width x)
