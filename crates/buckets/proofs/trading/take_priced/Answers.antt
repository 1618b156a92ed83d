use Rattle.std.proofs.Common.{◌≡◌, ◌+◌, ◌∙◌, All, ap, ap₂, option_map, option_to_list, rules, subst, sym, take, ◌++◌, get_or}
use Rattle.std.proofs.lemmas.List.Sorted.{answers_always}
use Rattle.base.specs.Least.{least_by}
use Rattle.probe.specs.Pricing.{Execution, Unknown, first_unknown, priced, unknown_of}
use Rattle.probe.specs.Selection.{admits}
use Rattle.buckets.specs.BucketRows.{rows_of_partitions}
use Rattle.buckets.specs.FoundRows.{kept_of}
use Rattle.morsel_rows.specs.Partitions.{FitSixBytes}
use Rattle.buckets.proofs.PricedParts.{executions_behind, kept_behind, unknown_behind}
use Rattle.buckets.proofs.RowsOfPartitions.{each_part}
use Rattle.buckets.proofs.trading.take_priced.Goals as goal

pub loop-partition-preserved : goal.loop-partition-preserved
loop-partition-preserved g c = λ rows is.
    let was = c.loop-partition.invariant rows is in
    let i = c.loop-partition.partition-index in
    let partitions = c.args.partitions.now in
    let bucket = c.args.bucket.now in
    let into = c.take_executions.new.into in
    let so_far = (rows_of_partitions (take i partitions)).executions in
    let more = c.executions.result.now in
    let item : (get_or partitions i c.partition-item.result).now.executions ≡ more = search rules in
    let all : (rows_of_partitions (take (i + 1) partitions)).executions ≡ so_far ++ more =
    executions_behind partitions i c.partition-item.result c.loop-partition-test.true ∙ ap (λ l. so_far ++ l) item in
    let first = c.earlier-unknown.ensures (λ unknown. unknown.place) (answers_always _ _ _ (λ f a r g called. search rules)) in
    let unknown =
    first
    ∙ ap₂ (λ a b. least_by (λ (u : Unknown). u.place) (option_to_list a ++ option_to_list b)) was.0 (c.in_ok-found.ensures.unknown rows is)
    ∙ sym (ap (λ e. option_map unknown_of (first_unknown rows e)) all ∙ unknown_behind rows so_far more) in
    let behind = ap (λ e. kept_of bucket (priced rows e)) all ∙ kept_behind rows so_far more bucket.breaks (admits bucket.selection) in
    (unknown, subst (λ l. g.T.TakesSales.Has l into) (sym behind) (c.in_ok-found.ensures.sales rows (kept_of bucket (priced rows so_far)) is was.1))

pub take_executions-requires-clause-fit : goal.take_executions-requires-clause-fit
take_executions-requires-clause-fit g c =
    let partitions = c.args.partitions.now in
    let i = c.loop-partition.partition-index in
    let item : (get_or partitions i c.partition-item.result).now.executions ≡ c.executions.result.now = search rules in
    let fits : Execution → Type 0 = λ e. FitSixBytes e.time e.place in
    subst (All fits) item (each_part (λ rows. rows.executions) fits partitions i c.partition-item.result c.loop-partition-test.true c.requires.fit)
