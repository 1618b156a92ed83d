use Rattle.std.proofs.Common.{◌++◌, ap₂, refl, ◌∙◌}
use Rattle.std.proofs.lemmas.List.Elements.{All-append}
use Rattle.bar.specs.OneBar.{IsTraded}
use Rattle.bars.proofs.BarsOfSales.{AreBarsOf-both}
use Rattle.bars.proofs.JoinedTables.{joined_traded, table_has}
use Rattle.bars.proofs.bar_table.BarTable.merge.Goals as goal

pub unite-requires : goal.unite-requires
unite-requires g c = rw (c.in_ok-extend_from_slice.ensures.items, c.in_ok-bars.ensures.items, c.items.ensures.value, c.items-2.ensures.value) c.requires.sums

pub returns-clause-merged : goal.returns-clause-merged
returns-clause-merged g c =
    rw (c.in_ok-extend_from_slice.ensures.items, c.in_ok-bars.ensures.items, c.items.ensures.value, c.items-2.ensures.value) at c.in_ok-self-inside.ensures

pub invariant_of-self : goal.invariant_of-self
invariant_of-self g c =
    let both = All-append IsTraded _ _ c.items.ensures.traded c.items-2.ensures.traded in
    let made = c.in_ok-extend_from_slice.ensures.items ∙ ap₂ ◌++◌ c.in_ok-bars.ensures.items refl in
    (c.in_ok-self-inside.ensures.rise, table_has IsTraded joined_traded _ _ c.in_ok-self-inside.ensures (rw made both))

pub returns-clause-bars : goal.returns-clause-bars
returns-clause-bars g c = λ width sales more p q. AreBarsOf-both width sales more _ _ _ p q (returns-clause-merged g c)

pub returns-clause-traded : goal.returns-clause-traded
returns-clause-traded g c = (invariant_of-self g c).1
