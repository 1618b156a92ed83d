-- What the steps of making tables compute: the bar of one sale, a bar put into a table, bars in order.
-- To be believed of a crate used by itself: the table of a bucket is defined by them.
use Rattle.std.specs.Prelude.{◌≡◌, ℕ, ◌+◌, ◌*◌, ◌/◌, ◌^◌, ◌<◌, ◌≤◌, All, List, [], ◌∷◌, None, length, map, if◌then◌else◌}
use Rattle.std.specs.List.Sorted.{IsNonDecreasingBy}
use Rattle.std.specs.Ordering.{is_eq, is_lt}
use Rattle.base.specs.declared.limits.TheConstants.{NANOSECONDS, SECONDS_OF_DAY, TIME_LIMIT, TRADE_LIMIT}
use Rattle.row_types.specs.declared.trade.Kind.TheVariants.{E}
use Rattle.row_types.specs.declared.trade.Sale.{Sale}
use Rattle.time_and_sales.specs.Lent.{AreApart}
use Rattle.bar.specs.declared.bar.Bar.{Bar}
use Rattle.bar.specs.OneBar.{IsTraded, Key, bar_from, interval_start, key_cmp, joined_bar}
use Rattle.bars.specs.Bars.{joined_all, under}
use Rattle.bars.specs.declared.tick.Tick.{Tick}

-- the bar of one sale
abbrev pub bar_of_one : ℕ → Sale → Bar
bar_of_one width sale = bar_from (record { locate = sale.locate; start = interval_start width sale.time }) sale []

-- a bar put into a table, and joined to the one of its key
abbrev pub put : Bar → List Bar → List Bar
put bar [] = bar ∷ []
put bar (other ∷ table) =
    if is_lt (key_cmp bar other) then bar ∷ other ∷ table
    else if is_eq (key_cmp bar other) then joined_bar bar other ∷ table
    else other ∷ put bar table

-- the table of the bars of a list, those of one key joined
abbrev pub united : List Bar → List Bar
united [] = []
united (bar ∷ bars) = put bar (united bars)

-- the table of the bars of some sales
abbrev pub bars_of : ℕ → List Sale → List Bar
bars_of width [] = []
bars_of width (sale ∷ sales) = put (bar_of_one width sale) (bars_of width sales)

-- ---- bars that are made only when their lines are written

-- a sale as bars need it: its time in whole seconds, neither its kind nor its match number
abbrev pub in_seconds : Sale → Sale
in_seconds sale = record sale { time = sale.time / NANOSECONDS * NANOSECONDS; kind = E; trade_no = 0 }

-- its time is one of a message, and its place one of 48 bits
abbrev pub HasTick : Sale → Type 0
HasTick sale = (sale.time < TIME_LIMIT) × (sale.place < 2 ^ 48)

-- what a tick keeps of its sale
abbrev pub sale_of_tick : Tick → Sale
sale_of_tick tick = record {
  place = tick.place_high * 2 ^ 32 + tick.place_low;
  time = tick.second * NANOSECONDS;
  locate = tick.locate;
  kind = E;
  price = tick.price;
  shares = tick.shares;
  trade_no = 0;
}

-- the bar of one tick
abbrev pub bar_of_tick : ℕ → Tick → Bar
bar_of_tick width tick = bar_of_one width (sale_of_tick tick)

-- the bar of one tick whose second is the one in which its interval starts
abbrev pub bar_at : Tick → Bar
bar_at tick = bar_from (record { locate = tick.locate; start = (sale_of_tick tick).time }) (sale_of_tick tick) []

-- ticks of some shares each, at times of messages, the bar of each of which is traded, whatever the width
pub record AreTraded (ticks : List Tick) : Type 0 where
  pub shares : All (λ sale. 0 < sale.shares) (map sale_of_tick ticks)
  pub times : All (λ sale. sale.time < TIME_LIMIT) (map sale_of_tick ticks)
  pub traded : (width : ℕ) → All (λ tick. IsTraded (bar_of_tick width tick)) ticks

-- what ticks keep of these sales
abbrev pub AreTicksOf : List Sale → List Sale → Type 0
AreTicksOf sales ticks = ticks ≡ map in_seconds sales

-- ticks that the bars of a bucket are kept as: their places differ, they are fewer than a file has room for, their
-- locates rise, the width is one of a day's, and the bar of each is traded
pub record AreKept (width : ℕ) (ticks : List Tick) : Type 0 where
  pub places : AreApart (map sale_of_tick ticks)
  pub count : length ticks < TRADE_LIMIT
  pub within_day : (1 ≤ width) × (width ≤ SECONDS_OF_DAY)
  pub locates : IsNonDecreasingBy (λ tick. tick.locate) ticks
  pub traded : AreTraded ticks

-- of each key the bars of two lists, joined, are one bar
abbrev pub AreJoinedAlike : List Bar → List Bar → Type 0
AreJoinedAlike one other = (key : Key) → joined_all None (under key one) ≡ joined_all None (under key other)

-- what stands where there is no bar
abbrev pub no_bar : Bar
no_bar = record {
  locate = 0;
  start = 0;
  first_place = 0;
  first = 0;
  high = 0;
  low = 0;
  last_place = 0;
  last = 0;
  volume = 0;
  notional = 0;
  trades = 0;
}
