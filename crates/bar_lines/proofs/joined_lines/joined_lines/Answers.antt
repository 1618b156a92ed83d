use Rattle.std.proofs.Common.{◌≡◌, false, All, List, map, take, ℕ, [], ◌∷◌, ◌++◌, sym, ap, ◌∙◌, arith, is_gt}
use Rattle.std.proofs.lemmas.Bool.{eqb-false, eqb-true}
use Rattle.std.proofs.lemmas.List.{length-map, nil_from_length, take_all}
use Rattle.std.proofs.lemmas.List.Elements.{All-contains, All-take, Contains-push}
use Rattle.base.proofs.Lists.{flat_map_push}
use Rattle.time_and_sales.specs.Names.{names_by}
use Rattle.bar.specs.declared.bar.Bar.{Bar}
use Rattle.bar.specs.OneBar.{key_cmp}
use Rattle.bars.specs.Bars.{IsUnionOf}
use Rattle.bars.specs.Steps.{bar_at}
use Rattle.bar_lines.specs.Told.{IsTold}
use Rattle.bars.specs.Texts.{IsWritable, bar_line}
use Rattle.bars.proofs.LastBar.{equal_from, joined_to_last, next_bar, put_behind_last}
use Rattle.bars.proofs.Ticks.{no_tick}
use Rattle.bars.proofs.JoinedTables.{union_of_none, joined_traded, one_union, table_has, union_of_one}
use Rattle.bar.proofs.OneBar.{average_fits}
use Rattle.bar_lines.proofs.joined_lines.joined_lines.Goals.{then-has_key_of, else-has_key_of+in_ok-write_bar}
use Rattle.bar_lines.proofs.joined_lines.joined_lines.Goals as goal

-- what a line asks of the current bar
can_write : (bars done : List Bar) (i : ℕ) (bar : Bar) → All IsTold bars → IsUnionOf (take i bars) (done ++ bar ∷ []) → IsWritable bar
can_write bars done i bar told union =
    let all = table_has IsTold (λ a b p q. (joined_traded a b p.0 q.0, p.1)) (take i bars) (done ++ bar ∷ []) union (All-take IsTold i bars told) in
    let one = All-contains IsTold (done ++ bar ∷ []) bar all (Contains-push done bar) in
    (one.1, one.0.0, average_fits bar one.0)

pub join-current-requires : goal.join-current-requires
join-current-requires c =
    let h = c.loop-i.invariant in
    let next = next_bar bar_at c.args.sorted.now c.loop-i.i no_tick c.bar_at-bar.result (h.done ++ c.loop-i.current ∷ []) c.requires.rise
    c.requires.sums (omega arith) c.bar_at-bar.ensures h.union in
    next.0.sums c.loop-i.current (Contains-push h.done c.loop-i.current) (equal_from _ (sym c.has_key_of.ensures ∙ c.if-has_key_of.true))

pub write_bar-requires : goal.write_bar-requires
write_bar-requires c =
    let can = can_write _ c.loop-i.invariant.done c.loop-i.i c.loop-i.current c.requires.told c.loop-i.invariant.union in
    record { start = can.0; volume = can.1; average = can.2 }

pub loop-i-preserved : goal.loop-i-preserved
loop-i-preserved c =
    let name : ℕ → List ℕ = names_by c.args.names.now in
    let h = c.loop-i.invariant in
    let bar = c.bar_at-bar.result in
    let table = h.done ++ c.loop-i.current ∷ [] in
    let next = next_bar bar_at c.args.sorted.now c.loop-i.i no_tick bar table c.requires.rise
    c.requires.sums (omega arith)
    c.bar_at-bar.ensures h.union in
    elim c.if-has_key_of.branch [
      | then-has_key_of w ↦
          let is = w.current-is ∙ w.join-current.ensures.value in
          let same = equal_from _ (sym c.has_key_of.ensures ∙ w.if-has_key_of.true) in
          record {
            done = h.done;
            text = ap (λ t. t.items) w.text-is ∙ h.text;
            union = rw is (next.1 _ (joined_to_last h.done c.loop-i.current bar h.union.rise same));
            name = w.name-is ∙ h.name ∙ ap (λ b. name b.locate) (sym is);
          }
      | else-has_key_of+in_ok-write_bar w ↦
          let up = All-contains (λ z. is_gt (key_cmp z bar) ≡ false) table c.loop-i.current next.0.up_to (Contains-push h.done c.loop-i.current) in
          record {
            done = table;
            text = grind (arith, flat_map_push (λ b. bar_line b (name b.locate)) h.done c.loop-i.current);
            union = rw w.current-is
                (next.1 _ (put_behind_last h.done c.loop-i.current bar h.union.rise up (sym c.has_key_of.ensures ∙ w.if-has_key_of.false)));
            name = w.name-is ∙ w.next_name-name.ensures ∙ ap (λ b. name b.locate) (sym w.current-is);
          }
    ]

pub loop-i-init : goal.loop-i-init
loop-i-init c =
    let bar = c.bar_at-current.result in
    let some = eqb-false _ _ (sym c.is_empty.ensures ∙ c.if-is_empty.false) in
    record {
      done = [];
      text = c.in_ok-text.ensures.items;
      union = (next_bar bar_at c.args.sorted.now 0 no_tick bar [] c.requires.rise
          c.requires.sums (omega (arith, some))
          c.bar_at-current.ensures union_of_none).1 (bar ∷ []) (union_of_one bar);
      name = c.name-name.ensures;
    }

pub returns-then-is_empty : goal.returns-then-is_empty
returns-then-is_empty c = grind (arith, nil_from_length, eqb-true, one_union, union_of_none)

pub returns : goal.returns
returns c =
    let name : ℕ → List ℕ = names_by c.args.names.now in
    let seen = map bar_at c.args.sorted.now in
    let h = c.loop-i.invariant in
    let all = take_all c.loop-i.i seen (omega (arith, length-map c.args.sorted.now bar_at)) in
    let last = flat_map_push (λ b. bar_line b (name b.locate)) h.done c.loop-i.current in
    λ table union. let one = one_union seen (h.done ++ c.loop-i.current ∷ []) table (rw all at h.union) union in grind arith

pub write_bar-requires-2 : goal.write_bar-requires-2
write_bar-requires-2 c =
    let can = can_write _ c.loop-i.invariant.done c.loop-i.i c.loop-i.current c.requires.told c.loop-i.invariant.union in
    record { start = can.0; volume = can.1; average = can.2 }
