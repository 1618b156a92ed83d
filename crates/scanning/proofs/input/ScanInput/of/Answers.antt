use Rattle.std.proofs.Common.{ap, ◌∙◌, arith}
use Rattle.std.specs.Arc.{arc_value}
use Rattle.day_file.specs.Cuts.{MorselView}
use Rattle.scanning.proofs.InputFrames.{more_within, shared_more}
use Rattle.scanning.proofs.input.ScanInput.of.Goals as goal

pub overflow_add-size : goal.overflow_add-size
overflow_add-size c =
    let more = more_within arc_value c.args.morsels.now c.loop-morsel.morsel-index c.morsel-item.result c.bytes.result.now c.loop-morsel-test.true
    c.morsel-item.is (c.bytes.ensures.same ∙ ap (λ (m : MorselView). m.bytes) c.deref.ensures) in
    omega (arith, more.1, c.loop-morsel.invariant.1, c.requires.within)

pub loop-morsel-preserved : goal.loop-morsel-preserved
loop-morsel-preserved c =
    let ms = c.args.morsels.now in
    let more = more_within arc_value ms c.loop-morsel.morsel-index c.morsel-item.result c.bytes.result.now c.loop-morsel-test.true
    c.morsel-item.is (c.bytes.ensures.same ∙ ap (λ (m : MorselView). m.bytes) c.deref.ensures) in (
      shared_more arc_value ms c.loop-morsel.shared.items c.push.new.self.items c.loop-morsel.morsel-index c.morsel-item.result c.in_ok-try_clone.field-0
          c.loop-morsel-test.true c.morsel-item.is c.in_ok-try_clone.ensures c.in_ok-push.ensures.items c.loop-morsel.invariant.0,
      omega (arith, more.0, c.loop-morsel.invariant.1),
    )
