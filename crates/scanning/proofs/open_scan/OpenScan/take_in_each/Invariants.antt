use Rattle.std.proofs.Common.{take}
use Rattle.scanning.proofs.PickedFrames.{bodies}
use Rattle.scanning.specs.Scans.{TakesIn}
use Rattle.scanning.proofs.open_scan.OpenScan.take_in_each.Given as goal

abbrev pub invariant-loop-frame : goal.invariant-loop-frame
invariant-loop-frame l = TakesIn l.as_of (bodies (take l.frame-index l.frames)) l.initial.self l.self
