-- The bar that comes after another among bars in any order, those of one key joined.
-- Derived: no public clause cites it.
use Rattle.std.specs.Prelude.{◌≡◌, Bool, true, List, Option, None, Some, if◌then◌else◌}
use Rattle.std.specs.Ordering.{is_eq, is_lt}
use Rattle.bar.specs.declared.bar.Bar.{Bar}
use Rattle.bar.specs.OneBar.{joined_bar, key_cmp}
use Rattle.bars.specs.Bars.{joined_all, under}

-- the bar has a greater key than the last one, if there is one
abbrev pub is_later : Option Bar → Bar → Bool
is_later None bar = true
is_later (Some last) bar = is_lt (key_cmp last bar)

-- the bars that have the key of this one, joined
abbrev pub joined_of : Bar → List Bar → Option Bar
joined_of bar bars = joined_all None (under (record { locate = bar.locate; start = bar.start }) bars)

-- it is what the bars of the least key later than the last one's are joined to, if there are any
abbrev pub IsNext : Option Bar → List Bar → Option Bar → Type 0
IsNext last bars None = (other : Bar) → is_later last other ≡ true → joined_of other bars ≡ None
IsNext last bars (Some bar) = (is_later last bar ≡ true) × (joined_of bar bars ≡ Some bar)
    × ((other : Bar) → is_later last other ≡ true → is_lt (key_cmp other bar) ≡ true → joined_of other bars ≡ None)

-- the bar of the lesser key, or both joined
abbrev pub lesser : Option Bar → Bar → Bar
lesser None bar = bar
lesser (Some best) bar =
    if is_lt (key_cmp best bar) then best else if is_eq (key_cmp best bar) then joined_bar best bar else bar

-- the best bar so far once one more is there
abbrev pub next_of_both : Option Bar → Option Bar → Bar → Option Bar
next_of_both last best bar = if is_later last bar then Some (lesser best bar) else best
