use Rattle.std.proofs.Common.{◌≡◌, true}
use Rattle.std.proofs.lemmas.List.Elements.{All-push, All-weaker}
use Rattle.order_list.specs.Bits.{may_have}
use Rattle.order_list.proofs.filter.OrderFilter.add_execution.Goals as goal

pub returns : goal.returns
returns c earlier ordered was = record {
  needs_executed = All-push (λ n. may_have c.insert.new.self n ≡ true) earlier c.args.executed
      (All-weaker _ _ c.insert.ensures.kept earlier was.needs_executed) c.insert.ensures.inserted;
  has_seen = was.has_seen;
  needs_repeated = λ i j d p q same. c.insert.ensures.kept _ (was.needs_repeated i j d p q same);
}
