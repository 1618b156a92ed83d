use Rattle.morsel_rows.proofs.TakenRows.{none_seen}
use Rattle.morsel_rows.proofs.rows.MorselRows.new.Goals as goal

pub returns : goal.returns
returns g c = λ i. record {
  partitions = none_seen c.args.parts c.in_ok-partitions.partitions.items c.in_ok-partitions.ensures i;
  breaks = c.new-3.ensures.items i;
  directory = c.new-4.ensures.items i;
}
