-- What the bar of a list of sales is, and the bar of two bars.
-- To be believed.
use Rattle.std.specs.Prelude.{ℕ, ◌+◌, ◌-◌, ◌*◌, ◌/◌, ◌==◌, ◌<◌, ◌≤◌, ◌^◌, nat_lt, max, min, Bool, ◌&&◌, cond, List, [], ◌∷◌, length, Option, Some, None, sum_by}
use Rattle.std.specs.Ordering.{nat_cmp, ordering_then}
use Rattle.std.specs.declared.cmp.Ordering.{Ordering}
use Rattle.base.specs.Least.{least_of, greatest_of}
use Rattle.base.specs.declared.limits.TheConstants.{NANOSECONDS}
use Rattle.row_types.specs.declared.trade.Sale.{Sale}
use Rattle.bar.specs.declared.bar.Bar.{Bar}

-- which bar: a locate, and the start of an interval in nanoseconds
pub record Key : Type 0 where
  pub locate : ℕ
  pub start : ℕ

-- the start of the interval that a time lies in, both in nanoseconds, at a width in seconds
abbrev pub interval_start : ℕ → ℕ → ℕ
interval_start width time = time / (width * NANOSECONDS) * (width * NANOSECONDS)

-- the sale's locate and interval are the key's
abbrev pub has_key : ℕ → Key → Sale → Bool
has_key width key sale = (sale.locate == key.locate) && (interval_start width sale.time == key.start)

-- the bar of a sale and others of its key, in whatever order they come: first and last by place, high and low by
-- price, the sums and the count
abbrev pub bar_from : Key → Sale → List Sale → Bar
bar_from key sale sales =
    let first = least_of (λ s. s.place) sale sales in
    let last = greatest_of (λ s. s.place) sale sales in
    record {
      locate = key.locate;
      start = key.start;
      first_place = first.place;
      first = first.price;
      high = (greatest_of (λ s. s.price) sale sales).price;
      low = (least_of (λ s. s.price) sale sales).price;
      last_place = last.place;
      last = last.price;
      volume = sum_by (λ s. s.shares) (sale ∷ sales);
      notional = sum_by (λ s. s.shares * s.price) (sale ∷ sales);
      trades = length (sale ∷ sales);
    }

-- the bar of the sales of one key; no bar if there are no sales
abbrev pub bar_of : Key → List Sale → Option Bar
bar_of key [] = None
bar_of key (sale ∷ sales) = Some (bar_from key sale sales)

-- bars compare by locate, then by start
abbrev pub key_cmp : Bar → Bar → Ordering
key_cmp a b = ordering_then (nat_cmp a.locate b.locate) (nat_cmp a.start b.start)

-- what any bar of sales has: some volume, an average price of 32 bits, and no more volume than that number of trades
-- of 64 bits can have
abbrev pub IsTraded : Bar → Type 0
IsTraded bar = (0 < bar.volume) × (bar.notional ≤ bar.volume * (2 ^ 32 - 1)) × (bar.volume ≤ bar.trades * 2 ^ 64)

-- two bars of one key joined: of sales at one place, the first bar's counts
abbrev pub joined_bar : Bar → Bar → Bar
joined_bar a b = record {
  locate = a.locate;
  start = a.start;
  first_place = min a.first_place b.first_place;
  first = cond (nat_lt b.first_place a.first_place) b.first a.first;
  high = max a.high b.high;
  low = min a.low b.low;
  last_place = max a.last_place b.last_place;
  last = cond (nat_lt a.last_place b.last_place) b.last a.last;
  volume = a.volume + b.volume;
  notional = a.notional + b.notional;
  trades = a.trades + b.trades;
}

-- the bar that is there, or both of them joined
abbrev pub joined : Option Bar → Option Bar → Option Bar
joined None b = b
joined (Some a) None = Some a
joined (Some a) (Some b) = Some (joined_bar a b)

-- the sums of two bars fit into 128 bits, and their numbers of trades into 64
abbrev pub CanJoin : Bar → Bar → Type 0
CanJoin a b = (a.volume + b.volume < 2 ^ 128) × (a.notional + b.notional < 2 ^ 128) × (a.trades + b.trades < 2 ^ 64)
