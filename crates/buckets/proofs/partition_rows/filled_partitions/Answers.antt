use Rattle.std.proofs.Common.{◌≡◌, ◌∙◌, ◌≤◌, Some, ap, arith, length, subst}
use Rattle.std.proofs.lemmas.Grind.{common_steps}
use Rattle.std.specs.Arc.{arc_value}
use Rattle.std.specs.List.{slice_get}
use Rattle.morsel_rows.specs.Partitions.{MorselRowsView}
use Rattle.buckets.specs.BucketRows.{rows_of_partitions}
use Rattle.buckets.proofs.RowsOfPartitions.{partition_empty, partition_missing, partition_more}
use Rattle.buckets.proofs.partition_rows.filled_partitions.Goals as goal
use Rattle.buckets.proofs.partition_rows.filled_partitions.Goals.{in-Some+else-not-is_empty, in-Some+then-not-is_empty+in_ok-push, in_default}

pub loop-morsel-preserved : goal.loop-morsel-preserved
loop-morsel-preserved c =
    let number = c.args.number in
    let i = c.loop-morsel.morsel-index in
    let morsels = c.args.morsels.now in
    let d = c.morsel-item.result in
    let this = c.deref.ensures ∙ ap arc_value c.morsel-item.is in
    elim c.match-partition.branch [
      | in-Some+then-not-is_empty+in_ok-push w ↦
          partition_more number i morsels d (omega (arith, c.loop-morsel-test.true)) c.loop-morsel.partitions.items
          c.match-partition.partitions.items w.in-Some.partition
          c.loop-morsel.invariant (ap (λ partitions. partitions.items) w.partitions-is ∙ w.in_ok-push.ensures.items)
          (subst (λ (m : MorselRowsView). slice_get m.partitions number ≡ Some w.in-Some.partition.now) this w.in-Some.ensures)
      | in-Some+else-not-is_empty w ↦
          ap (λ partitions. rows_of_partitions partitions.items) w.partitions-is
          ∙ partition_empty number i morsels d (omega (arith, c.loop-morsel-test.true)) c.loop-morsel.partitions.items
          w.in-Some.partition.now c.loop-morsel.invariant
          (subst (λ (m : MorselRowsView). slice_get m.partitions number ≡ Some w.in-Some.partition.now) this w.in-Some.ensures)
          (w.is_empty.ensures.0 w.if-not-is_empty.false)
      | in_default w ↦
          ap (λ partitions. rows_of_partitions partitions.items) w.partitions-is
          ∙ partition_missing number i morsels d (omega (arith, c.loop-morsel-test.true)) c.loop-morsel.partitions.items c.loop-morsel.invariant
          (subst (λ (m : MorselRowsView). length m.partitions ≤ number) this w.in_default.ensures)
    ]

pub returns : goal.returns
returns c = grind (arith, common_steps)
