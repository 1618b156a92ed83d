-- The digits of a number, put one after the other.
use Rattle.std.proofs.Common.{◌≡◌, ℕ, ◌+◌, ◌/◌, ◌%◌, ◌<◌, ◌≤◌, List, ◌∷◌, [], ◌++◌, sym, ap, ◌∙◌, append_assoc, arith}
use Rattle.std.specs.Fmt.{decimal}
use Rattle.itoa.proofs.Decimal.{decimal_four, decimal_pair, decimal_two, pair}
use Rattle.time_and_sales.specs.Texts.{digits}

two_digits : (n : ℕ) → n < 100 → digits 2 n ≡ pair n
unfolding digits
two_digits n small = ap (λ d. (48 + d) ∷ (48 + n % 10) ∷ []) (omega (arith, small))

four_digits : (n : ℕ) → n < 10000 → digits 4 n ≡ pair (n / 100) ++ pair (n % 100)
unfolding digits
four_digits n small = search (arith, small)

-- a number of two digits
pub tens : (n : ℕ) → 10 ≤ n → n < 100 → digits 2 n ≡ decimal n
tens n two small = two_digits n small ∙ sym (decimal_two n two small)

-- one of three or four, behind others
pub hundreds : (before : List ℕ) (n : ℕ) → 100 ≤ n → n < 10000 → (before ++ decimal (n / 100)) ++ digits 2 (n % 100) ≡ before ++ decimal n
hundreds before n more small =
    append_assoc before (decimal (n / 100)) (digits 2 (n % 100))
    ∙ ap (λ l. before ++ l)
    (ap (λ l. decimal (n / 100) ++ l) (two_digits (n % 100) (omega arith)) ∙ sym (decimal_pair n more (omega (arith, small))))

-- one of five or six, behind others
pub ten_thousands : (before : List ℕ) (n : ℕ) → 10000 ≤ n → n < 1000000 → (before ++ decimal (n / 10000)) ++ digits 4 (n % 10000) ≡ before ++ decimal n
ten_thousands before n more small =
    append_assoc before (decimal (n / 10000)) (digits 4 (n % 10000))
    ∙ ap (λ l. before ++ l)
    (ap (λ l. decimal (n / 10000) ++ l) (four_digits (n % 10000) (omega arith)) ∙ sym (decimal_four n more (omega (arith, small))))
