-- The bits of a reference.
-- To be believed of a crate used by itself: it says how bits are found, and no answer is defined by it.
use Rattle.std.specs.Prelude.{ℕ, ◌*◌, ◌/◌, ◌%◌, ◌^◌, ◌==◌, Bool, List, length, slice_index, bit_and, bit_or}
use Rattle.order_list.specs.declared.bits.TheConstants.{SPREAD}

-- the product that a reference's word and bits are taken from, for a number of words
abbrev pub product_of : ℕ → ℕ → ℕ
product_of words order_no = order_no * SPREAD % 2 ^ 64 * words

-- the reference's word: the product's high half
abbrev pub word_of : ℕ → ℕ → ℕ
word_of words order_no = product_of words order_no / 2 ^ 64

-- the reference's two bits in that word, or one, by the next twelve bits of the product
abbrev pub mask_of : ℕ → ℕ → ℕ
mask_of words order_no =
    bit_or (1 * 2 ^ (product_of words order_no / 2 ^ 58 % 64) % 2 ^ 64)
    (1 * 2 ^ (product_of words order_no / 2 ^ 52 % 64) % 2 ^ 64)

-- whether the reference's bits are set
abbrev pub may_have : List ℕ → ℕ → Bool
may_have words order_no =
    bit_and (slice_index words (word_of (length words) order_no)) (mask_of (length words) order_no)
    == mask_of (length words) order_no
