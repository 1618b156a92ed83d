use Rattle.std.proofs.Common.{◌≡◌}
use Rattle.block_scan.proofs.chaining.chain.Given as goal

abbrev pub invariant-loop-attempt : goal.invariant-loop-attempt
invariant-loop-attempt g l = l.chain.asked ≡ record { source = l.source; request = l.request }
