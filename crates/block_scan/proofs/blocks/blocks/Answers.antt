use Rattle.std.proofs.Common.{◌∷◌, [], ◌++◌, map, sym, ap, ap₂, ◌∙◌, arith, ◌≡◌}
use Rattle.std.specs.Arc.{arc_value}
use Rattle.std.proofs.lemmas.List.FromFn.{map-range_with_len_more}
use Rattle.std.proofs.lemmas.List.{map_push}
use Rattle.base.specs.Least.{numbers_below}
use Rattle.block_scan.specs.Attempts.{block_at}
use Rattle.block_scan.proofs.blocks.blocks.Goals as goal

pub loop-number-preserved : goal.loop-number-preserved
loop-number-preserved g c =
    let block = block_at (arc_value c.args.source.now) c.args.request c.args.division.blocks in
    ap (map arc_value) c.in_ok-push.ensures.items
    ∙ map_push arc_value c.loop-number.blocks.items c.in_ok-new.field-0
    ∙ ap₂ (λ l b. l ++ b ∷ []) c.loop-number.invariant
    (c.in_ok-new.ensures.ok ∙ c.block-block.ensures
    ∙ ap (λ s. block_at s c.args.request c.args.division.blocks c.loop-number.number) c.in_ok-try_clone.ensures)
    ∙ sym (map-range_with_len_more block 0 c.loop-number.number c.loop-number.number (omega arith))

pub returns : goal.returns
returns g c =
    let all : c.loop-number.number ≡ c.args.division.blocks = omega arith in
    c.loop-number.invariant ∙ ap (λ n. map (block_at (arc_value c.args.source.now) c.args.request c.args.division.blocks) (numbers_below n)) all
