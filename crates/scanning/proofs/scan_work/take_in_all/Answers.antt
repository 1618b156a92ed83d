use Rattle.std.proofs.Common.{ap, length, sym, ◌∙◌, ◌+◌, ◌-◌, ◌^◌, subst, arith}
use Rattle.std.specs.Arc.{arc_value}
use Rattle.day_file.specs.Cuts.{MorselView}
use Rattle.scanning.specs.Scans.{AreTakenIn}
use Rattle.scanning.proofs.InputFrames.{AreIn, bytes_next, more_in, more_within}
use Rattle.scanning.proofs.scan_work.take_in_all.Goals as goal

pub of-requires : goal.of-requires
of-requires c =
    let more = more_within arc_value c.morsels-morsel-items.result.now c.loop-morsel.morsel-index c.morsel-item.result c.bytes-bytes.result.now
    c.loop-morsel-test.true c.morsel-item.is (c.bytes-bytes.ensures.same ∙ ap (λ (m : MorselView). m.bytes) c.deref.ensures) in
    let all = c.morsels-morsel-items.ensures in
    omega (arith, more.1, c.loop-morsel.invariant.place_is, ap length all.bytes, all.within)

pub overflow_add-place : goal.overflow_add-place
overflow_add-place c =
    let more = more_within arc_value c.morsels-morsel-items.result.now c.loop-morsel.morsel-index c.morsel-item.result c.bytes-bytes.result.now
    c.loop-morsel-test.true c.morsel-item.is (c.bytes-bytes.ensures.same ∙ ap (λ (m : MorselView). m.bytes) c.deref.ensures) in
    let all = c.morsels-morsel-items.ensures in
    omega (arith, more.1, c.loop-morsel.invariant.place_is, ap length all.bytes, all.within)

pub loop-morsel-preserved : goal.loop-morsel-preserved
loop-morsel-preserved c =
    let l = c.loop-morsel in
    let ms = c.morsels-morsel-items.result.now in
    let run = c.bytes-bytes.result.now in
    let frames = c.of.result.frames in
    let is = c.bytes-bytes.ensures.same ∙ ap (λ (m : MorselView). m.bytes) c.deref.ensures in
    let more = more_within arc_value ms l.morsel-index c.morsel-item.result run c.loop-morsel-test.true c.morsel-item.is is in
    let all = c.morsels-morsel-items.ensures in
    let taken = subst (λ as_of. AreTakenIn as_of frames (2 ^ 64 - 1) c.in_ok-take_in.field-0 l.scan c.take_in.new.self) c.as_of.ensures
    c.in_ok-take_in.ensures.taken in
    subst (λ bytes. AreIn c.args.input.now.as_of c.args.input.now.morsel.start bytes (l.place + length run) c.args.scan.now c.take_in.new.self)
    (sym (bytes_next arc_value ms l.morsel-index c.morsel-item.result run c.loop-morsel-test.true c.morsel-item.is is))
    (more_in run frames c.in_ok-take_in.field-0 l.invariant c.bytes-bytes.ensures.run c.of.ensures.whole c.of.ensures.within
    (omega (arith, more.1, l.invariant.place_is, ap length all.bytes, all.within)) taken)
