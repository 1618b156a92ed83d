-- Lists that are lent, and what lists of lists have together.
-- To be believed of a crate used by itself: clauses on many listings or tables are in these words.
use Rattle.std.specs.Prelude.{List, map, nat_eq}
use Rattle.std.specs.Borrow.{Bor}
use Rattle.std.specs.List.{IsDistinct, flat_map}
use Rattle.row_types.specs.declared.trade.Sale.{Sale}

-- what the references of a list point to
abbrev pub lent : {X : Type 0} → List (Bor X) → List X
lent {X} references = map (λ (one : Bor X). one.now) references

-- the sales of all lists, list by list
abbrev pub all_sales : List (List Sale) → List Sale
all_sales lists = flat_map (λ sales. sales) lists

-- no two of the sales have one place
abbrev pub AreApart : List Sale → Type 0
AreApart sales = IsDistinct nat_eq (map (λ sale. sale.place) sales)
