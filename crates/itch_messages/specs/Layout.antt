-- The layout of a body: its types and their lengths, a header's fields, and numbers and texts by offset and width.
-- To be believed.
use Rattle.std.specs.Prelude.{ℕ, ◌==◌, if◌then◌else◌, Option, None, Some, List, take, drop}
use Rattle.byteorder.specs.Endian.{big_number, big_bytes}

-- the length of a body of this type, which is its first byte, if it is one of the nine types
unfoldable pub length_of : ℕ → Option ℕ
length_of kind =
    if kind == 65 then Some 36 else  -- A
    if kind == 70 then Some 40 else  -- F
    if kind == 69 then Some 31 else  -- E
    if kind == 67 then Some 36 else  -- C
    if kind == 85 then Some 35 else  -- U
    if kind == 80 then Some 44 else  -- P
    if kind == 81 then Some 40 else  -- Q
    if kind == 66 then Some 19 else  -- B
    if kind == 82 then Some 39 else None  -- R

-- a header: the locate, the tracking number, and the time in nanoseconds since midnight
pub record HeaderFields : Type 0 where
  pub locate : ℕ
  pub tracking : ℕ
  pub time : ℕ

-- the number in `width` bytes from `offset` on, the highest byte first
unfoldable pub number_at : ℕ → ℕ → List ℕ → ℕ
number_at offset width body = big_number width (drop offset body)

-- the `width` bytes from `offset` on
unfoldable pub bytes_at : ℕ → ℕ → List ℕ → List ℕ
bytes_at offset width body = take width (drop offset body)

-- a number in `width` bytes, the highest byte first
unfoldable pub number_bytes : ℕ → ℕ → List ℕ
number_bytes width number = big_bytes width number
