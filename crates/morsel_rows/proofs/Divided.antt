-- A quotient by a multiplication: it is that of a division, or one less.
use Rattle.std.proofs.Common.{◌≡◌, ℕ, ◌+◌, ◌-◌, ◌*◌, ◌/◌, ◌%◌, ◌<◌, ◌≤◌, ◌∙◌, ap, arith, sym}
use Rattle.std.proofs.Math.Nat.{div-mul-le_self, le_of_mul-le-mul_right, lt_of_mul-lt-mul_right, lt-div-mul-add, mul-le-mul_left, mul-lt-mul_of_pos_right}
use Rattle.std.proofs.Math.Nat.{add-mod_left, mod-eq_of_lt, mul-add-mod_self_right, mul-le-mul_right}
use Rattle.std.proofs.lemmas.Nat.{mod-mul-add}

-- it is no more: m is how often d goes into a number of at most n, and q how often n into r * m
at_most : (n d m r q : ℕ) → 0 < n → q * n ≤ r * m → m * d ≤ n → q * d ≤ r
at_most n d m r q some below times =
    let one = mul-le-mul_right d below in
    let two = mul-le-mul_left r times in
    le_of_mul-le-mul_right (omega (arith, one, two)) some

-- nor is it two less
at_least : (n d m r q : ℕ) → 0 < d → r * m < q * n + n → n ≤ m * d + d → r < n → r < q * d + 2 * d
at_least n d m r q some below times within =
    let one = mul-lt-mul_of_pos_right below some in
    let two = mul-le-mul_left r times in
    let three = mul-lt-mul_of_pos_right within some in
    lt_of_mul-lt-mul_right n (omega (arith, one, two, three))

-- the same of numbers of 64 bits
pub most : (of d m : ℕ) → m ≡ 18446744073709551615 / d → of * m / 18446744073709551616 * d ≤ of
most of d m is =
    at_most 18446744073709551616 d m of (of * m / 18446744073709551616) (omega arith) (div-mul-le_self (of * m) 18446744073709551616)
    (rw is (omega (arith, div-mul-le_self 18446744073709551615 d)))

pub least : (of d m : ℕ) → 0 < d → m ≡ 18446744073709551615 / d → of < 18446744073709551616 → of < of * m / 18446744073709551616 * d + 2 * d
least of d m some is within =
    at_least 18446744073709551616 d m of (of * m / 18446744073709551616) some (lt-div-mul-add (omega arith))
    (rw is (omega (arith, lt-div-mul-add {a = 18446744073709551615} {b = d} some))) within

-- what is left then
pub left_below : (of d q : ℕ) → q * d ≤ of → of - q * d < d → of - q * d ≡ of % d
left_below of d q most below =
    let is : of ≡ q * d + (of - q * d) = omega (arith, most) in
    sym (ap (λ n. n % d) is ∙ mod-mul-add q d (of - q * d) below)

pub left_above : (of d q : ℕ) → q * d ≤ of → d ≤ of - q * d → of < q * d + 2 * d → of - q * d - d ≡ of % d
left_above of d q most above least =
    let left = of - q * d - d in
    let is : of ≡ q * d + (d + left) = omega (arith, most, above) in
    sym (ap (λ n. n % d) is ∙ mul-add-mod_self_right q d (d + left) ∙ add-mod_left d left ∙ mod-eq_of_lt (omega (arith, most, above, least)))
