use Rattle.std.proofs.Common.{◌≡◌, All, get_or, rules, subst}
use Rattle.row_types.specs.declared.trade.Sale.{Sale}
use Rattle.probe.specs.Selection.{admits}
use Rattle.probe.proofs.KeptSales.{kept_have_shares}
use Rattle.morsel_rows.specs.Partitions.{FitSixBytes}
use Rattle.buckets.proofs.PricedParts.{kept_fit}
use Rattle.buckets.proofs.RowsOfPartitions.{each_part}
use Rattle.buckets.proofs.trading.take_own_priced.Goals as goal

pub take-requires-clause-shares : goal.take-requires-clause-shares
take-requires-clause-shares g c =
    rw (c.as_slice.ensures.value, c.keep.ensures)
    (kept_have_shares c.breaks.result.now (admits c.selection.result.now) c.extend_from_slice.new.self.items)

pub take-requires-clause-fit : goal.take-requires-clause-fit
take-requires-clause-fit g c =
    let partitions = c.args.partitions.now in
    let i = c.loop-partition.partition-index in
    let sales = c.extend_from_slice.new.self.items in
    let item : (get_or partitions i c.partition-item.result).now.own_priced ≡ sales = search rules in
    let fits : Sale → Type 0 = λ s. FitSixBytes s.time s.place in
    let all = each_part (λ rows. rows.own_priced) fits partitions i c.partition-item.result c.loop-partition-test.true c.requires in
    rw (c.as_slice.ensures.value, c.keep.ensures)
    (kept_fit c.breaks.result.now (admits c.selection.result.now) sales (subst (All fits) item all))
