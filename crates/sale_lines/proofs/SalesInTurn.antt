-- The sales of a range of places, written one after another: how many bytes their lines have. No line is longer than 96 bytes.
use Rattle.std.proofs.Common.{◌≡◌, ℕ, ◌+◌, ◌*◌, ◌^◌, ◌<◌, ◌≤◌, Bool, List, length, filter, Option, Some, ap, arith}
use Rattle.time_and_sales.specs.Lent.{all_sales}
use Rattle.time_and_sales.specs.Ranges.{is_behind}
use Rattle.sale_lines.specs.SaleParts.{AreAllSales}
use Rattle.time_and_sales.specs.Texts.{Sale}
use Rattle.time_and_sales.proofs.SortedByPlace.{place_of}
use Rattle.sale_lines.proofs.TakenInTurn.{found, length_filter, next_of_left}

module _ (p : Sale → Bool) (listings : List (List Sale)) (sales : List Sale) (are : AreAllSales listings sales) where
  -- there is room for the lines of all sales that are left
  abbrev pub HasRoom : ℕ → Option ℕ → Type 0
  HasRoom written last = written + 96 * length (filter (is_behind place_of last) (filter p sales)) ≤ 96 * length (filter p sales)

  pub room_is_small : (written : ℕ) (last : Option ℕ) → HasRoom written last → written < 2 ^ 39
  room_is_small written last room = omega (arith, length_filter p sales, are.few, room)

  module _ (written count : ℕ) (last : Option ℕ) (sale : Sale)
      (next : Some sale ≡ found place_of p (all_sales listings) sales are.by_place are.all last) (room : HasRoom written last) (short : count ≤ 96) where
    pub room_for_more : HasRoom (written + count) (Some sale.place)
    room_for_more = omega (arith, ap length (next_of_left place_of p (all_sales listings) sales are.by_place are.all last sale next), room, short)

    pub more_is_small : written + count < 2 ^ 39
    more_is_small = room_is_small (written + count) (Some sale.place) room_for_more
