use Rattle.std.proofs.Common.{◌≡◌, length, map, take}
use Rattle.std.specs.Arc.{arc_value}
use Rattle.scanning.proofs.InputFrames.{bytes_so_far}
use Rattle.scanning.proofs.input.ScanInput.of.Given as goal

-- the morsels so far are shared, and have this many bytes
abbrev pub invariant-loop-morsel : goal.invariant-loop-morsel
invariant-loop-morsel l =
    (map arc_value l.shared.items ≡ map arc_value (take l.morsel-index l.morsels))
    × (l.size ≡ length (bytes_so_far arc_value l.morsel-index l.morsels))
