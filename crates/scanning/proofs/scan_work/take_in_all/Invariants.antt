use Rattle.std.specs.Arc.{arc_value}
use Rattle.scanning.proofs.InputFrames.{AreIn, bytes_so_far}
use Rattle.scanning.proofs.scan_work.take_in_all.Given as goal

-- the frames of the morsels so far are taken in
abbrev pub invariant-loop-morsel : goal.invariant-loop-morsel
invariant-loop-morsel l =
    AreIn l.input.as_of l.input.morsel.start (bytes_so_far arc_value l.morsel-index l.morsel-items) l.place l.initial.scan l.scan
