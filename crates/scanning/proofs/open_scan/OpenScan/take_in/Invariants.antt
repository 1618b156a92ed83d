use Rattle.scanning.proofs.PickedFrames.{IsPicking}
use Rattle.scanning.proofs.open_scan.OpenScan.take_in.Given as goal

abbrev pub invariant-loop-frame : goal.invariant-loop-frame
invariant-loop-frame l =
    IsPicking l.as_of l.fn.frames.frames l.frame-iterator.frames l.walked l.count l.picked l.initial.self l.self
