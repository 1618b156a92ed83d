use Rattle.std.proofs.Common.{All, vec_len}
use Rattle.std.specs.Arc.{arc_value}
use Rattle.dispatcher.specs.Seats.{IsSeatOf, IsUnused}
use Rattle.pipelines.proofs.pipeline.Pipeline.start_workers.Given as goal

abbrev pub invariant-loop-seat : goal.invariant-loop-seat
invariant-loop-seat g l = record {
  own : All (IsSeatOf (arc_value l.dispatcher)) l.seats.items;
  unused : All IsUnused l.seats.items;
}

abbrev pub decreases-loop-seat : goal.decreases-loop-seat
decreases-loop-seat g l = vec_len l.seats
