use Rattle.std.proofs.Common.{ap, arith}
use Rattle.sinks.specs.declared.shares.Share.{Share}
use Rattle.sinks.proofs.FollowedShares.{follow_push}
use Rattle.sinks.proofs.ahead.Ahead.start_one.Goals as goal

pub returns-clause-follow : goal.returns-clause-follow
returns-clause-follow g c =
    let promised = c.in-Ok.ensures.ok in
    rw c.in-Ok-push_back.ensures.items
    (follow_push c.args.self.now.parts.now c.args.self.now.done c.args.self.now.threads.items c.args.self.now.next _ c.requires.follow
    (ap (λ (s : Share g.row.P.Denot). s.parts.now) promised) (ap (λ (s : Share g.row.P.Denot). s.first) promised) (search arith))
