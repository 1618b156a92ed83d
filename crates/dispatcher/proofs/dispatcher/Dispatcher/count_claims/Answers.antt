use Rattle.std.proofs.Common.{◌≡◌, arith}
use Rattle.dispatcher.proofs.dispatcher.Dispatcher.count_claims.Goals as goal
use Rattle.dispatcher.proofs.RuleIsKept.{counts}

pub load-requires : goal.load-requires
load-requires g c = (c.requires.own, omega (arith, c.args.self.now.shape), counts _)
