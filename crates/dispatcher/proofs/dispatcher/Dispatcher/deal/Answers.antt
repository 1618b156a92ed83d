use Rattle.std.proofs.Common.{◌≡◌, ℕ, suc, ◌+◌, ◌-◌, add-one, arith, rules}
use Rattle.std.proofs.lemmas.Grind.{common_steps, elements}
use Rattle.std.proofs.lemmas.List.{map_push}
use Rattle.base.proofs.Lists.{range_more}
use Rattle.dispatcher.proofs.dispatcher.Dispatcher.deal.Goals as goal
use Rattle.dispatcher.proofs.RuleIsKept.{splits}

pub split_seat-inner-requires : goal.split_seat-inner-requires
split_seat-inner-requires g c = (search rules, omega (arith, c.args.self.now.shape), rw c.loop.invariant.rest (splits _ _ _))

pub invariant_of-push : goal.invariant_of-push
invariant_of-push g c = let n : ℕ = c.args.self.now.seats in let k : ℕ = c.loop.counter in let less : n - k ≡ suc (n - (k + 1)) = omega arith in record {
  no_slot = rw c.split_seat-inner.ensures.4;
  one_number = rw (c.split_seat-inner.ensures.4, c.loop.invariant.rest, less);
}

pub loop-preserved : goal.loop-preserved
loop-preserved g c = let n : ℕ = c.args.self.now.seats in let k : ℕ = c.loop.counter in let less : n - k ≡ suc (n - (k + 1)) = omega arith in record {
  rest_own = search rules;
  rest = rw (c.split_seat-inner.ensures.2, c.loop.invariant.rest, less);
  count = grind (arith, common_steps);
  numbers = rw (c.in_ok-push.ensures.items, map_push, c.loop.invariant.numbers, add-one, range_more 0 k k (omega arith))
      (rw (c.split_seat-inner.ensures.4, c.loop.invariant.rest, less));
  own = grind (arith, elements);
  unused = grind (arith, elements);
}
