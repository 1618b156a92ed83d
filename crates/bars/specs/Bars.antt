-- Which tables of bars are those of a list of sales, and tables made one.
-- To be believed.
use Rattle.std.specs.Prelude.{◌≡◌, ℕ, ◌==◌, ◌<◌, ◌^◌, All, ◌&&◌, List, [], ◌∷◌, Option, Some, None, filter, find, sum_by}
use Rattle.std.specs.List.{AllZip, flat_map}
use Rattle.std.specs.List.Sorted.{IsStrictlySortedBy}
use Rattle.row_types.specs.declared.trade.Sale.{Sale}
use Rattle.bar.specs.declared.bar.Bar.{Bar}
use Rattle.bar.specs.OneBar.{IsTraded, Key, bar_of, has_key, joined, key_cmp}

-- each bar has a greater key than the one before
abbrev pub IsByKey : List Bar → Type 0
IsByKey table = IsStrictlySortedBy key_cmp table

-- the bar that a table has under a key
abbrev pub found : List Bar → Key → Option Bar
found table key = find (λ bar. (bar.locate == key.locate) && (bar.start == key.start)) table

-- the table has, by rising keys, the bar of each key that some sale has, and no other
pub record AreBarsOf (width : ℕ) (sales : List Sale) (table : List Bar) : Type 0 where
  pub rise : IsByKey table
  pub each : (key : Key) → found table key ≡ bar_of key (filter (has_key width key) sales)

-- ---- tables made one

-- the bars of a list, all of one key, joined in its order to what there was before
abbrev pub joined_all : Option Bar → List Bar → Option Bar
joined_all before [] = before
joined_all before (bar ∷ bars) = joined_all (joined before (Some bar)) bars

-- the bars of a list that have a key
abbrev pub under : Key → List Bar → List Bar
under key bars = filter (λ bar. (bar.locate == key.locate) && (bar.start == key.start)) bars

-- the bars of all tables, table by table
abbrev pub all_bars : List (List Bar) → List Bar
all_bars tables = flat_map (λ table. table) tables

-- the table has, by rising keys, the bars of a list, those of one key joined
pub record IsUnionOf (bars table : List Bar) : Type 0 where
  pub rise : IsByKey table
  pub each : (key : Key) → found table key ≡ joined_all None (under key bars)

-- under each key the sums of all bars of a list fit into 128 bits, and their numbers of trades into 64
pub record AllSumsFit (bars : List Bar) : Type 0 where
  pub volume : (key : Key) → sum_by (λ bar. bar.volume) (under key bars) < 2 ^ 128
  pub notional : (key : Key) → sum_by (λ bar. bar.notional) (under key bars) < 2 ^ 128
  pub trades : (key : Key) → sum_by (λ bar. bar.trades) (under key bars) < 2 ^ 64

-- the sums of bars fit, if each bar is traded: what may be asked of bars that are known to be traded by their type
abbrev pub FitIfTraded : List Bar → Type 0
FitIfTraded bars = All IsTraded bars → AllSumsFit bars

-- each table is that of the list of sales in its position
abbrev pub AreBarsOfEach : ℕ → List (List Sale) → List (List Bar) → Type 0
AreBarsOfEach width lists tables = AllZip (AreBarsOf width) lists tables
