use Rattle.std.proofs.Common.{arith, ◌+◌, ◌≤◌, subst}
use Rattle.sinks.specs.Followed.{Follow}
use Rattle.sinks.proofs.FollowedShares.{follow_reach}
use Rattle.sinks.proofs.ahead.Ahead.take.Goals as goal

reach : (g : _) (c : goal.In-Some g) → c.args.self.now.done + c.in-Some.field-0.count ≤ c.args.all
reach g c =
    let (same, first, some, more) = subst (λ threads. Follow c.args.self.now.parts.now c.args.self.now.done threads c.args.self.now.next) c.in-Some.ensures.items c.requires.follow in
    omega (arith, follow_reach c.args.self.now.parts.now _ _ _ more, c.requires.within)

pub overflow_add-self : goal.overflow_add-self
overflow_add-self g c = omega (arith, reach g c, c.ranges.all.fits)

pub returns-in-Some-clause-within : goal.returns-in-Some-clause-within
returns-in-Some-clause-within g c =
    let (same, first, some, more) = subst (λ threads. Follow c.args.self.now.parts.now c.args.self.now.done threads c.args.self.now.next) c.in-Some.ensures.items c.requires.follow in
    (omega (arith, follow_reach c.args.self.now.parts.now _ _ _ more, c.requires.within), c.requires.within)
