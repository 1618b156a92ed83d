use Rattle.std.proofs.Common.{◌≡◌, ◌-◌, ◌+◌, length, slice_set, refl, sym, ap, ◌∙◌, arith, vec_len}
use Rattle.std.proofs.lemmas.List.{set-get_or}
use Rattle.bars.proofs.LastBar.{equal_from, joined_at_end, pushed_at_end}
use Rattle.bars.proofs.bar_table.add.Goals as goal

pub returns-then-has_key_of : goal.returns-then-has_key_of
returns-then-has_key_of g c =
    let n = vec_len c.args.bars.now - 1 in
    let count : n + 1 ≡ length c.args.bars.now.items = omega (arith, c.args.bars.now.ok.0, c.in-Some.ensures.variant.0 refl) in
    rw c.join.ensures.value (joined_at_end c.args.bars.now.items n c.in-Some.last.now c.args.bar count c.in-Some.ensures.value c.requires.by_key
    (equal_from _ (sym c.has_key_of.ensures ∙ c.if-has_key_of.true)))

pub returns-in_ok-push-2 : goal.returns-in_ok-push-2
returns-in_ok-push-2 g c =
    let n = vec_len c.args.bars.now - 1 in
    let count : n + 1 ≡ length c.args.bars.now.items = omega (arith, c.args.bars.now.ok.0, c.in-Some.ensures.variant.0 refl) in
    rw (c.in_ok-push-2.ensures.items, ap (slice_set c.args.bars.now.items n) c.in-Some.ensures.value ∙ set-get_or c.args.bars.now.items n c.in-Some.last.now)
    (pushed_at_end c.args.bars.now.items n c.in-Some.last.now c.args.bar count c.in-Some.ensures.value c.requires.by_key c.requires.up_to
    (sym c.has_key_of.ensures ∙ c.if-has_key_of.false))
