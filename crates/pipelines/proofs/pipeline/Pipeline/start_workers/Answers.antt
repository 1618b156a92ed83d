use Rattle.std.proofs.Common.{Some}
use Rattle.std.proofs.lemmas.List.Elements.{All-pop}
use Rattle.std.specs.Arc.{arc_value}
use Rattle.dispatcher.specs.Seats.{IsSeatOf, IsUnused}
use Rattle.pipelines.proofs.pipeline.Pipeline.start_workers.Goals as goal

pub loop-seat-preserved : goal.loop-seat-preserved
loop-seat-preserved g c =
    let before = c.loop-seat.invariant in record {
      own = (All-pop (IsSeatOf (arc_value c.in_ok-dispatcher-2.dispatcher)) _ _ (Some c.in-Some.seat) c.in-Some.ensures.items before.own).0;
      unused = (All-pop IsUnused _ _ (Some c.in-Some.seat) c.in-Some.ensures.items before.unused).0;
    }

pub start_worker-requires-clause-own : goal.start_worker-requires-clause-own
start_worker-requires-clause-own g c κs within =
    (All-pop (IsSeatOf (arc_value c.in_ok-dispatcher-2.dispatcher)) _ _ (Some c.in-Some.seat) c.in-Some.ensures.items c.loop-seat.invariant.own).1

pub start_worker-requires-clause-unused : goal.start_worker-requires-clause-unused
start_worker-requires-clause-unused g c κs within =
    (All-pop IsUnused _ _ (Some c.in-Some.seat) c.in-Some.ensures.items c.loop-seat.invariant.unused).1
