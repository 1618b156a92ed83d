use Rattle.std.proofs.Common.{map-id, None, rules, sym, ap}
use Rattle.std.proofs.lemmas.Result.{IfOk-weaker}
use Rattle.bar.specs.declared.bar.Bar.{Bar}
use Rattle.bars.specs.Bars.{joined_all}
use Rattle.bars.specs.Steps.{AreJoinedAlike}
use Rattle.bars.proofs.JoinedTables.{ordered, union_alike}
use Rattle.bars.proofs.LastBar.{no_bar}
use Rattle.bars.proofs.SumsAreBounded.{fits_in_order}
use Rattle.bars.proofs.bar_table.unite.Goals as goal

pub join_all-requires : goal.join_all-requires
join_all-requires g c =
    let order = rw (map-id, map-id) at (ordered (λ (b : Bar). b) no_bar
    c.args.bars.items c.sort_by_key.new.self.items c.in_ok-sort_by_key.ensures.permutation c.in_ok-sort_by_key.ensures.sorted
    c.in_ok-sort_by_key.ensures.stable (λ f a r q k. search rules)) in
    rw c.as_slice.ensures.value (record { rise = order.rise; sums = fits_in_order _ _ order c.requires })

pub returns : goal.returns
returns g c =
    let order = rw (map-id, map-id) at (ordered (λ (b : Bar). b) no_bar
    c.args.bars.items c.sort_by_key.new.self.items c.in_ok-sort_by_key.ensures.permutation c.in_ok-sort_by_key.ensures.sorted
    c.in_ok-sort_by_key.ensures.stable (λ f a r q k. search rules)) in
    let alike : AreJoinedAlike c.args.bars.items c.sort_by_key.new.self.items = λ key. ap (joined_all None) (sym (order.each key)) in
    IfOk-weaker c.join_all.result _ _ (λ all union. union_alike _ c.sort_by_key.new.self.items all.items alike (rw c.as_slice.ensures.value at union))
    c.join_all.ensures
