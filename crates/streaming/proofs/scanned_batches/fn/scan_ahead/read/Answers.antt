use Rattle.streaming.proofs.scanned_batches.fn.scan_ahead.read.Goals as goal

pub returns : goal.returns
returns g c = record {
  next = c.next_batch.ensures.next;
  same = c.next_batch.ensures.same;
  told = c.next_batch.ensures.fault;
  failed = c.next_batch.ensures.failed;
}
