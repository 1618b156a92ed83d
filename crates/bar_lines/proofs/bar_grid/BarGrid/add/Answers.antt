use Rattle.std.proofs.Common.{◌≡◌, ◌<◌, None, Some, length, get_or, Equal, sym, ◌∙◌, arith}
use Rattle.std.proofs.lemmas.List.{get_or_default}
use Rattle.bar.specs.OneBar.{key_cmp}
use Rattle.bars.specs.Steps.{no_bar}
use Rattle.bar_lines.proofs.Grids.{join_in, kept_in, put_in}
use Rattle.bars.proofs.LastBar.{equal_from}
use Rattle.bar_lines.proofs.bar_grid.BarGrid.add.Goals as goal

pub index-requires : goal.index-requires
index-requires c =
    let there : get_or c.self.inside.slots.items c.in-Some.slot None ≡ Some c.from-number.result = grind (arith, get_or_default) in
    let within : c.in-Some.slot < length c.self.inside.slots.items = grind (arith) in
    omega (arith, (c.self.invariant c.in-Some.slot c.from-number.result within there).0, c.self.inside.bars.ok.0)

pub join-requires : goal.join-requires
join-requires c =
    let there : get_or c.self.inside.slots.items c.in-Some.slot None ≡ Some c.from-number.result = grind (arith, get_or_default) in
    let within : c.in-Some.slot < length c.self.inside.slots.items = grind (arith) in
    let known = (c.self.invariant c.in-Some.slot c.from-number.result within there).0 in
    let kept = c.index.ensures ∙ get_or_default c.self.inside.bars.items c.from-number.result c.index.result.now no_bar known in
    let same : key_cmp c.index.result.now c.args.bar.now ≡ Equal = equal_from _ (sym c.has_key_of.ensures ∙ c.if-not-has_key_of.false) in
    c.requires c.index.result.now (rw (← c.self.view_is, kept) (kept_in c.self.inside.grid c.self.inside.bars.items c.self.inside.slots.items c.self.invariant
    c.args.bar.now c.in-Some.slot within c.in-Some.ensures c.from-number.result there)) same

pub index_mut-requires : goal.index_mut-requires
index_mut-requires c =
    let there : get_or c.self.inside.slots.items c.in-Some.slot None ≡ Some c.from-number.result = grind (arith, get_or_default) in
    let within : c.in-Some.slot < length c.self.inside.slots.items = grind (arith) in
    omega (arith, (c.self.invariant c.in-Some.slot c.from-number.result within there).0, c.self.inside.bars.ok.0)

pub invariant_of-self : goal.invariant_of-self
invariant_of-self c =
    let there : get_or c.self.inside.slots.items c.in-Some.slot None ≡ Some c.from-number.result = grind (arith, get_or_default) in
    let within : c.in-Some.slot < length c.self.inside.slots.items = grind (arith) in
    let known = (c.self.invariant c.in-Some.slot c.from-number.result within there).0 in
    let kept = c.index.ensures ∙ get_or_default c.self.inside.bars.items c.from-number.result c.index.result.now no_bar known in
    let same : key_cmp c.index.result.now c.args.bar.now ≡ Equal = equal_from _ (sym c.has_key_of.ensures ∙ c.if-not-has_key_of.false) in
    rw c.join.ensures.value (join_in c.self.inside.grid c.self.inside.bars.items c.self.inside.slots.items c.self.invariant
    c.args.bar.now c.in-Some.slot within c.in-Some.ensures c.from-number.result c.index.result.now there kept same).0

pub invariant_of-self-in_err-push-in-Some-None : goal.invariant_of-self-in_err-push-in-Some-None
invariant_of-self-in_err-push-in-Some-None c = rw c.in_err-push-in-Some-None.ensures.items c.self.invariant

pub invariant_of-self-in-Some-None : goal.invariant_of-self-in-Some-None
invariant_of-self-in-Some-None c =
    let there : get_or c.self.inside.slots.items c.in-Some.slot None ≡ None = grind (arith, get_or_default) in
    let within : c.in-Some.slot < length c.self.inside.slots.items = grind (arith) in
    let number : c.in-Ok.number ≡ length c.self.inside.bars.items = omega (arith, c.in-Ok.ensures, c.len.ensures, c.self.inside.bars.ok.0) in
    rw (c.in_ok-push-in-Some-None.ensures.items, number)
    (put_in c.self.inside.grid c.self.inside.bars.items c.self.inside.slots.items c.self.invariant
    c.args.bar.now c.in-Some.slot within c.in-Some.ensures there).0

pub returns-else-not-has_key_of : goal.returns-else-not-has_key_of
returns-else-not-has_key_of c = λ _.
    let there : get_or c.self.inside.slots.items c.in-Some.slot None ≡ Some c.from-number.result = grind (arith, get_or_default) in
    let within : c.in-Some.slot < length c.self.inside.slots.items = grind (arith) in
    let known = (c.self.invariant c.in-Some.slot c.from-number.result within there).0 in
    let kept = c.index.ensures ∙ get_or_default c.self.inside.bars.items c.from-number.result c.index.result.now no_bar known in
    let same : key_cmp c.index.result.now c.args.bar.now ≡ Equal = equal_from _ (sym c.has_key_of.ensures ∙ c.if-not-has_key_of.false) in
    rw (← c.self.view_is, c.join.ensures.value) (join_in c.self.inside.grid c.self.inside.bars.items c.self.inside.slots.items c.self.invariant
    c.args.bar.now c.in-Some.slot within c.in-Some.ensures c.from-number.result c.index.result.now there kept same).1

pub returns-in_ok-push-in-Some-None : goal.returns-in_ok-push-in-Some-None
returns-in_ok-push-in-Some-None c = λ _.
    let there : get_or c.self.inside.slots.items c.in-Some.slot None ≡ None = grind (arith, get_or_default) in
    let within : c.in-Some.slot < length c.self.inside.slots.items = grind (arith) in
    let number : c.in-Ok.number ≡ length c.self.inside.bars.items = omega (arith, c.in-Ok.ensures, c.len.ensures, c.self.inside.bars.ok.0) in
    rw (← c.self.view_is, c.in_ok-push-in-Some-None.ensures.items, number)
    (put_in c.self.inside.grid c.self.inside.bars.items c.self.inside.slots.items c.self.invariant
    c.args.bar.now c.in-Some.slot within c.in-Some.ensures there).1
