use Rattle.std.proofs.Common.{◌<◌, subst, sym}
use Rattle.std.specs.List.{All}
use Rattle.buckets.specs.RisingLists.{AreRising, RisingList}
use Rattle.buckets.proofs.RisingRows.{above_all, rising_more}
use Rattle.buckets.proofs.rising_orders.add.Goals as goal

pub returns-in_ok-push-in-Some-clause-rising : goal.returns-in_ok-push-in-Some-clause-rising
returns-in_ok-push-in-Some-clause-rising c = λ added.
    let lists = c.args.lists.now.items in
    let list : RisingList = record { last = c.greatest-last.result; rows = c.in-Some.rows } in
    let least = c.least.result in
    let below = subst (All (λ (p : RisingList). p.last < least)) c.as_slice.ensures.value (c.are_below.ensures c.if-are_below.true) in
    subst AreRising (sym c.in_ok-push-in-Some.ensures.items)
    (rising_more lists list c.requires c.in-Some.ensures.rise c.greatest-last.ensures.greatest
    (above_all lists list least below c.greatest-last.ensures.some c.least.ensures c.greatest-last.ensures.greatest))
