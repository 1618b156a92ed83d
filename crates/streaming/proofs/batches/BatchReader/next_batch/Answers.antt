use Rattle.std.proofs.Common.{[], arith}
use Rattle.cutting.proofs.Fed.{fed_length_is}
use Rattle.streaming.proofs.JoinedBatches.{reading_on}
use Rattle.streaming.proofs.batches.BatchReader.next_batch.Goals as goal

pub invariant_of-self : goal.invariant_of-self
invariant_of-self g c =
    let inv = c.self.invariant in
    reading_on inv c.new.ensures.fed c.new.ensures.target (omega (arith, inv.within, fed_length_is c.new.result [] c.new.ensures.fed))
