-- The texts of a bar and of a table of bars.
-- To be believed.
use Rattle.std.specs.Prelude.{ℕ, ◌/◌, ◌^◌, ◌<◌, ◌%◌, List, ◌++◌, codes}
use Rattle.std.specs.List.{flat_map}
use Rattle.std.specs.Fmt.{decimal}
use Rattle.base.specs.declared.limits.TheConstants.{TIME_LIMIT}
use Rattle.time_and_sales.specs.Texts.{price_text, seconds_text}
use Rattle.bar.specs.declared.bar.Bar.{Bar}

-- the average price, exact: notional over volume as a price, rounded down, then `+`, the rest, `/` and the volume; the
-- fraction isn't reduced, and counts ten-thousandths of a dollar
abbrev pub average_text : ℕ → ℕ → List ℕ
average_text notional volume = price_text (notional / volume)
    ++ codes "+" ++ decimal (notional % volume) ++ codes "/" ++ decimal volume

-- the four prices, each after a comma
abbrev pub prices_text : Bar → List ℕ
prices_text bar = codes "," ++ price_text bar.first ++ codes "," ++ price_text bar.high
    ++ codes "," ++ price_text bar.low ++ codes "," ++ price_text bar.last

-- the volume, the number of trades and the average, each after a comma, and the line's end
abbrev pub sums_text : Bar → List ℕ
sums_text bar = codes "," ++ decimal bar.volume ++ codes "," ++ decimal bar.trades
    ++ codes "," ++ average_text bar.notional bar.volume ++ codes "\n"

-- a bar whose numbers have a text
abbrev pub IsWritable : Bar → Type 0
IsWritable bar = (bar.start < TIME_LIMIT) × (0 < bar.volume) × (bar.notional / bar.volume < 2 ^ 32)

-- the line of a bar whose locate has the name
abbrev pub bar_line : Bar → List ℕ → List ℕ
bar_line bar name = name ++ codes "," ++ seconds_text bar.start ++ prices_text bar ++ sums_text bar

-- the first line of a table of bars
abbrev pub bars_header : List ℕ
bars_header = codes "symbol,start,first,high,low,last,volume,trades,average\n"

-- the line of each bar, under the name of its locate
abbrev pub lines_text : (ℕ → List ℕ) → List Bar → List ℕ
lines_text name bars = flat_map (λ bar. bar_line bar (name bar.locate)) bars

-- the header and the line of each bar, under the name of its locate
abbrev pub bars_text : (ℕ → List ℕ) → List Bar → List ℕ
bars_text name bars = bars_header ++ lines_text name bars
