use Rattle.std.proofs.Common.{rules}
use Rattle.base.proofs.Among.{made_has, made_rises}
use Rattle.probe.proofs.locates.LocateList.from_rows.Goals as goal

pub invariant_of-result : goal.invariant_of-result
invariant_of-result g c = search (rules, made_rises)

pub returns-clause-numbers : goal.returns-clause-numbers
returns-clause-numbers g c = search (rules, made_has)

pub returns-clause-rising : goal.returns-clause-rising
returns-clause-rising g c = search (rules, made_rises)
