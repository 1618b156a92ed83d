use Rattle.std.proofs.Common.{IsOk}
use Rattle.std.specs.List.{AllWithin}
use Rattle.block_scan.proofs.attempt.Attempts.first_fault.Given as goal

-- those before have a piece
abbrev pub invariant-loop-attempt : goal.invariant-loop-attempt
invariant-loop-attempt g l = AllWithin (λ attempt. IsOk attempt.found) l.self 0 l.attempt-index
