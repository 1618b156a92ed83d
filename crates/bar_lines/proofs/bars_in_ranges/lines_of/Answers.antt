use Rattle.std.proofs.Common.{rules, ap, ◌∙◌, map}
use Rattle.std.proofs.lemmas.List.Elements.{All-weaker}
use Rattle.std.proofs.lemmas.List.Sorted.{All-permutation}
use Rattle.std.proofs.lemmas.Result.{IfOk-weaker}
use Rattle.time_and_sales.specs.Names.{names_by}
use Rattle.bars.specs.Bars.{IsUnionOf, joined_all}
use Rattle.bars.specs.Steps.{AreJoinedAlike, bar_at}
use Rattle.bar_lines.specs.Told.{IsTold}
use Rattle.bars.specs.Texts.{IsWritable, lines_text}
use Rattle.bars.proofs.Ticks.{no_tick}
use Rattle.bars.proofs.JoinedTables.{joined_traded, one_union, ordered, table_has, union_alike}
use Rattle.bar.proofs.OneBar.{average_fits}
use Rattle.bars.proofs.SumsAreBounded.{fits_in_order}
use Rattle.bar_lines.proofs.bars_in_ranges.lines_of.Goals as goal

pub lines-requires : goal.lines-requires
lines-requires c =
    let union : IsUnionOf (map bar_at c.args.ticks.items) c.in-Some-2.bars =
    rw c.as_slice-in-Some.ensures.value at (rw c.in-Some-2.is at c.in_ok-bars.ensures) in
    All-weaker IsTold IsWritable (λ bar one. (one.1, one.0.0, average_fits bar one.0)) c.in-Some-2.bars
    (table_has IsTold (λ a b p q. (joined_traded a b p.0 q.0, p.1)) (map bar_at c.args.ticks.items) c.in-Some-2.bars union c.requires.told)

pub joined_lines-requires : goal.joined_lines-requires
joined_lines-requires c =
    let order = ordered bar_at no_tick c.args.ticks.items
    c.sort_by_key.new.self.items c.in_ok-sort_by_key.ensures.permutation c.in_ok-sort_by_key.ensures.sorted c.in_ok-sort_by_key.ensures.stable
    (λ f a r q k. search rules) in
    rw c.as_slice-2.ensures.value (record {
      rise = order.rise;
      told = All-permutation IsTold _ _ order.permutation c.requires.told;
      sums = fits_in_order _ _ order c.requires.sums;
    })

pub returns : goal.returns
returns c =
    let order = ordered bar_at no_tick c.args.ticks.items
    c.sort_by_key.new.self.items c.in_ok-sort_by_key.ensures.permutation c.in_ok-sort_by_key.ensures.sorted c.in_ok-sort_by_key.ensures.stable
    (λ f a r q k. search rules) in
    let alike : AreJoinedAlike (map bar_at c.sort_by_key.new.self.items) (map bar_at c.args.ticks.items) = λ key. ap (joined_all _) (order.each key) in
    IfOk-weaker c.joined_lines.result _ _
    (λ text e all union. e all (rw c.as_slice-2.ensures.value (union_alike _ (map bar_at c.args.ticks.items) all alike union))) c.joined_lines.ensures

pub returns-in-Some-2 : goal.returns-in-Some-2
returns-in-Some-2 c =
    let union : IsUnionOf (map bar_at c.args.ticks.items) c.in-Some-2.bars =
    rw c.as_slice-in-Some.ensures.value at (rw c.in-Some-2.is at c.in_ok-bars.ensures) in
    IfOk-weaker c.lines.result _ _ (λ text e all same. e ∙ ap (lines_text (names_by c.args.names.now)) (one_union _ c.in-Some-2.bars all union same))
    c.lines.ensures
