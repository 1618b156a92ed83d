-- The bytes of a day, message by message: the layout of docs/FORMATS.md. What a message's words leave open is the same in each.
use Rattle.std.proofs.Common.{ℕ, ◌+◌, ◌*◌, ◌-◌, List, [], ◌∷◌, ◌++◌, drop, fold, nat_lt, take}
use Rattle.std.specs.Prelude.{codes, if◌then◌else◌}
use Prim.Native.String.{String}
use Rattle.byteorder.specs.Endian.{big_bytes}
use Rattle.day_file.specs.Frames.{frame_of}

-- ---- fields

-- the number that digits write; 48 is the code of `0`
abbrev number_in : List ℕ → ℕ
number_in digits = fold (λ value digit. 10 * value + (digit - 48)) 0 digits

-- the nanoseconds since midnight of a time as `09:30:01` or `09:30:01.000000005`
abbrev nanoseconds : List ℕ → ℕ
nanoseconds text =
    ((number_in (take 2 text) * 60 + number_in (take 2 (drop 3 text))) * 60 + number_in (take 2 (drop 6 text))) * 1_000_000_000 + number_in (drop 9 text)

-- a header behind its type: the locate, a tracking number of 0, the time
abbrev pub at : ℕ → String → List ℕ
at locate time = big_bytes 2 locate ++ big_bytes 2 0 ++ big_bytes 6 (nanoseconds (codes time))

abbrev pub reference : ℕ → List ℕ
reference order_no = big_bytes 8 order_no

abbrev pub number : ℕ → List ℕ
number trade_no = big_bytes 8 trade_no

abbrev pub shares : ℕ → List ℕ
shares count = big_bytes 4 count

-- a cross's shares have eight bytes
abbrev pub volume : ℕ → List ℕ
volume count = big_bytes 8 count

-- in ten-thousandths of a dollar
abbrev pub price : ℕ → List ℕ
price amount = big_bytes 4 amount

abbrev pub printable : String → List ℕ
printable letter = codes letter

-- a name, with spaces up to eight bytes
abbrev pub stock : String → List ℕ
stock name = take 8 (codes name ++ codes "        ")

-- ---- frames

abbrev pub named : List ℕ → List ℕ → List ℕ
named header stock = frame_of (codes "R" ++ header ++ stock ++ codes "                    ")

abbrev pub order : List ℕ → List ℕ → List ℕ → List ℕ
order header reference price = frame_of (codes "A" ++ header ++ reference ++ codes "B" ++ shares 100 ++ stock "MSFT" ++ price)

abbrev pub attributed : List ℕ → List ℕ → List ℕ → List ℕ
attributed header reference price = frame_of (codes "F" ++ header ++ reference ++ codes "B" ++ shares 100 ++ stock "MSFT" ++ price ++ codes "NSDQ")

-- the old reference, the new one, and the new price
abbrev pub replaced : List ℕ → List ℕ → List ℕ → List ℕ → List ℕ
replaced header old new price = frame_of (codes "U" ++ header ++ old ++ new ++ shares 100 ++ price)

abbrev pub executed : List ℕ → List ℕ → List ℕ → List ℕ → List ℕ
executed header reference shares number = frame_of (codes "E" ++ header ++ reference ++ shares ++ number)

abbrev pub executed_at : List ℕ → List ℕ → List ℕ → List ℕ → List ℕ → List ℕ → List ℕ
executed_at header reference shares number printable price = frame_of (codes "C" ++ header ++ reference ++ shares ++ number ++ printable ++ price)

abbrev pub trade : List ℕ → List ℕ → List ℕ → List ℕ → List ℕ
trade header shares price number = frame_of (codes "P" ++ header ++ reference 0 ++ codes "B" ++ shares ++ stock "MSFT" ++ price ++ number)

abbrev pub cross : List ℕ → List ℕ → List ℕ → List ℕ → List ℕ
cross header volume price number = frame_of (codes "Q" ++ header ++ volume ++ stock "MSFT" ++ price ++ number ++ codes "O")

abbrev pub broken : List ℕ → List ℕ → List ℕ
broken header number = frame_of (codes "B" ++ header ++ number)

-- ---- bytes as they stand in a file

abbrev digit : ℕ → ℕ
digit code = if nat_lt code 58 then code - 48 else code - 87

abbrev pairs : List ℕ → List ℕ
pairs (high ∷ low ∷ more) = (digit high * 16 + digit low) ∷ pairs more
pairs _ = []

-- bytes in hexadecimal
abbrev pub hex : String → List ℕ
hex digits = pairs (codes digits)
