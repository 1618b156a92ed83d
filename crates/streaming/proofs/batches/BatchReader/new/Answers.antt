use Rattle.std.proofs.Common.{[], arith}
use Rattle.cutting.proofs.Fed.{fed_length_is}
use Rattle.streaming.proofs.batches.BatchReader.new.Goals as goal

pub invariant_of-result : goal.invariant_of-result
invariant_of-result c = record {
  fed = [];
  has = c.new.ensures.fed;
  same = c.new.ensures.target;
  target_is = c.requires.target;
  within = omega (arith, fed_length_is c.new.result [] c.new.ensures.fed);
  limit_is = c.requires.limit;
  few = omega arith;
}
