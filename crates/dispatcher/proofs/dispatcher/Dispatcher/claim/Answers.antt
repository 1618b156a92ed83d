use Rattle.std.proofs.Common.{arith}
use Rattle.dispatcher.proofs.dispatcher.Dispatcher.claim.Goals as goal
use Rattle.dispatcher.proofs.RuleIsKept.{claims}

pub fetch_add-number-requires : goal.fetch_add-number-requires
fetch_add-number-requires g c = (
  c.requires.own,
  omega (arith, c.args.self.now.shape),
  claims _ c.args.seat.now.one_number (λ k d lt. omega (arith, c.requires.more k d lt, c.args.self.now.size)),
)
