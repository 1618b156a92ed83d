use Rattle.std.proofs.Common.{rules}
use Rattle.base.proofs.Among.{made_has, made_rises}
use Rattle.broken_trades.proofs.breaks.make_rising.Goals as goal

pub returns-clause-numbers : goal.returns-clause-numbers
returns-clause-numbers g c = search (rules, made_has)

pub returns-clause-rising : goal.returns-clause-rising
returns-clause-rising g c = search (rules, made_rises)
