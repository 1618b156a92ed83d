-- The lines of the sales of many listings, in parts.
-- Derived: no public clause cites it.
use Rattle.std.specs.Prelude.{◌≡◌, ℕ, ◌<◌, ◌^◌, All, List, [], ◌∷◌, filter, flat_map, length, slice_index_or}
use Rattle.std.specs.List.Sorted.{IsPermutation}
use Rattle.base.specs.declared.limits.TheConstants.{TIME_LIMIT, TRADE_LIMIT}
use Rattle.row_types.specs.SalesByPlace.{IsByPlace}
use Rattle.time_and_sales.specs.Lent.{all_sales}
use Rattle.time_and_sales.specs.Ranges.{is_in_first}
use Rattle.time_and_sales.specs.Texts.{Sale, sale_line}

-- the texts of the ranges that begin at the bounds: each has the lines of the items in it
abbrev pub texts_of_ranges : {X : Type 0} → (X → ℕ) → (X → List ℕ) → List X → List ℕ → List (List ℕ)
texts_of_ranges number line items [] = []
texts_of_ranges number line items (low ∷ bounds) =
    flat_map line (filter (is_in_first number (low ∷ bounds)) items) ∷ texts_of_ranges number line items bounds

-- the lines of sales, in the ranges of places that begin at the bounds
abbrev pub sale_texts : (ℕ → List ℕ) → List Sale → List ℕ → List (List ℕ)
sale_texts name sales bounds =
    texts_of_ranges (λ sale. sale.place) (λ sale. sale_line sale (name sale.locate)) sales bounds

-- these are the sales of all listings, by place, at times that can be written, and fewer than a day file has room for
pub record AreAllSales (listings : List (List Sale)) (sales : List Sale) : Type 0 where
  pub by_place : IsByPlace sales
  pub all : IsPermutation (all_sales listings) sales
  pub times : All (λ sale. sale.time < TIME_LIMIT) (all_sales listings)
  pub few : length sales < TRADE_LIMIT

-- these are the names of the first locates
abbrev pub AreNamesMade : (ℕ → List ℕ) → List (List ℕ) → Type 0
AreNamesMade name made =
    (locate : ℕ) (other : List ℕ) → locate < length made → slice_index_or made locate other ≡ name locate

-- what the parts of the lines keep
pub record AreParts (listings : List (List Sale)) (sales : List Sale)
    (name : ℕ → List ℕ) (names : List (List ℕ)) (bounds : List ℕ) : Type 0 where
  pub whole : AreAllSales listings sales
  pub made : AreNamesMade name names
  pub few : length bounds < 2 ^ 24
