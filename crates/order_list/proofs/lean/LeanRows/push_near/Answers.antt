use Rattle.std.proofs.Common.{rules}
use Rattle.order_list.proofs.lean.LeanRows.push_near.Goals as goal

pub invariant_of-self-in-Some : goal.invariant_of-self-in-Some
invariant_of-self-in-Some g c =
    (search rules, λ rise. rw (c.offset.ensures.offset, c.in_ok-push-in-Some.ensures.pushed) (c.rise_with-rises.ensures rise c.if-is_empty.self-inside.rows.items (search rules)))
