use Rattle.std.proofs.Common.{◌-◌, ◌+◌}
use Rattle.block_scan.proofs.Filled.{IsFilling}
use Rattle.block_scan.proofs.block_reading.scan_frames.Given as goal

abbrev pub invariant-loop-place : goal.invariant-loop-place
invariant-loop-place g l = IsFilling g.S.BlockSource.GaveAt l.source l.request l.start l.target l.place l.filled l.buffer l.scan

abbrev pub decreases-loop-place : goal.decreases-loop-place
decreases-loop-place g l = l.request.limit + 1 - (l.place + l.filled)
