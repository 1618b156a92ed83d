use Rattle.std.proofs.Common.{◌≡◌, ◌<◌, ◌+◌, ◌++◌, [], ◌∷◌, All, None, Some, Option, ℕ, List, length, get_or, take, sym, ap, ap₂, ◌∙◌, subst, arith, append-nil}
use Rattle.std.proofs.lemmas.Grind.{flat_map-append}
use Rattle.std.proofs.lemmas.List.{get_or_default, take_all, take_more}
use Rattle.std.proofs.lemmas.List.Elements.{All-contains}
use Rattle.time_and_sales.specs.Names.{names_by}
use Rattle.bar.specs.declared.bar.Bar.{Bar}
use Rattle.bar_lines.specs.Grids.{bar_in, bars_in}
use Rattle.bars.specs.Steps.{no_bar}
use Rattle.bars.specs.Texts.{IsWritable, bar_line, lines_text}
use Rattle.bar_lines.proofs.Grids.{kept_in}
use Rattle.bar_lines.proofs.bar_grid.BarGrid.lines.Goals.{in-Some+in_ok-write_bar, in_default}
use Rattle.bar_lines.proofs.bar_grid.BarGrid.lines.Goals as goal

-- the lines of one slot more
lines_more : (name : ℕ → List ℕ) (bars : List Bar) (slots : List (Option ℕ)) (i : ℕ) (at : Option ℕ) → i < length slots → get_or slots i None ≡ at
    → lines_text name (bars_in bars (take (i + 1) slots)) ≡ lines_text name (bars_in bars (take i slots)) ++ lines_text name (bar_in bars at)
lines_more name bars slots i at within e =
    let next = take_more slots i None within ∙ ap (λ a. take i slots ++ a ∷ []) e in
    let before = bars_in bars (take i slots) in
    let now : bars_in bars (take (i + 1) slots) ≡ before ++ bar_in bars at =
    ap (bars_in bars) next ∙ flat_map-append (bar_in bars) (take i slots) (at ∷ []) ∙ ap (λ m. before ++ m) (append-nil (bar_in bars at)) in
    ap (lines_text name) now ∙ flat_map-append (λ (b : Bar). bar_line b (name b.locate)) before (bar_in bars at)

pub loop-slot-preserved : goal.loop-slot-preserved
loop-slot-preserved c =
    let h = c.loop-slot.invariant in
    let name : ℕ → List ℕ = names_by c.args.names.now in
    let bars = c.self.inside.bars.items in
    let slots = c.as_slice-slots.result.now in
    let i = c.loop-slot.slot-index in
    elim c.match-slot.branch [
      | in-Some+in_ok-write_bar w ↦
          let number = w.in-Some.number in
          let there = rw c.as_slice-slots.ensures.value at w.in-Some.is in
          let within = rw c.as_slice-slots.ensures.value at c.loop-slot-test.true in
          let known = c.self.invariant i number within there in
          let more = lines_more name bars slots i (Some number) c.loop-slot-test.true w.in-Some.is in
          let bar = w.index-bar.result.now in
          let is : bar ≡ get_or bars number no_bar =
          w.index-bar.ensures ∙ ap (λ n. get_or bars n bar) w.from.ensures ∙ get_or_default bars number bar no_bar known.0 in
          let line : w.write_bar.new.out.items ≡ c.loop-slot.text.items ++ bar_line bar (name bar.locate) =
          w.in_ok-write_bar.ensures.ok ∙ ap (λ n. c.loop-slot.text.items ++ bar_line bar n) w.next_name-name.ensures in
          let last : bar_line bar (name bar.locate) ≡ lines_text name (bar_in bars (Some number)) =
          sym (append-nil (bar_line bar (name bar.locate))) ∙ ap (λ (b : Bar). lines_text name (b ∷ [])) is in
          record {
            text = ap (λ t. t.items) w.text-is ∙ line ∙ ap₂ (λ a b. a ++ b) h.text last ∙ sym more;
            name = w.name-is ∙ w.next_name-name.ensures ∙ ap name (sym w.locate-is);
          }
      | in_default w ↦
          let more = lines_more name bars slots i None c.loop-slot-test.true w.in_default.is in
          record {
            text = ap (λ t. t.items) w.text-is ∙ h.text ∙ sym (append-nil (lines_text name (bars_in bars (take i slots)))) ∙ sym more;
            name = w.name-is ∙ h.name ∙ ap name (sym w.locate-is);
          }
    ]

pub index-bar-requires : goal.index-bar-requires
index-bar-requires c =
    let there = rw c.as_slice-slots.ensures.value at c.in-Some.is in
    let within = rw c.as_slice-slots.ensures.value at c.loop-slot-test.true in
    omega (arith, c.from.ensures, (c.self.invariant c.loop-slot.slot-index c.in-Some.number within there).0, c.self.inside.bars.ok.0)

pub write_bar-requires : goal.write_bar-requires
write_bar-requires c =
    let bars = c.self.inside.bars.items in
    let slots = c.self.inside.slots.items in
    let bar = c.index-bar.result.now in
    let number = c.in-Some.number in
    let there = rw c.as_slice-slots.ensures.value at c.in-Some.is in
    let within = rw c.as_slice-slots.ensures.value at c.loop-slot-test.true in
    let known = c.self.invariant c.loop-slot.slot-index number within there in
    let is : bar ≡ get_or bars number no_bar =
    c.index-bar.ensures ∙ ap (λ n. get_or bars n bar) c.from.ensures ∙ get_or_default bars number bar no_bar known.0 in
    let kept = kept_in c.self.inside.grid bars slots c.self.invariant (get_or bars number no_bar) c.loop-slot.slot-index within known.1 number there in
    let can : IsWritable bar = rw is
    (All-contains IsWritable (bars_in bars slots) (get_or bars number no_bar) (subst (All IsWritable) (sym c.self.view_is) c.requires) kept) in
    record { start = can.0; volume = can.1; average = can.2 }

pub returns : goal.returns
returns c =
    rw (← c.self.view_is)
    (rw (take_all c.loop-slot.slot-index c.as_slice-slots.result.now c.loop-slot-test.false, c.as_slice-slots.ensures.value) at c.loop-slot.invariant.text)
