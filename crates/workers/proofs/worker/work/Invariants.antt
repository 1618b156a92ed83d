use Rattle.std.proofs.Common.{◌*◌, ◌-◌}
use Rattle.dispatcher.proofs.Rising.{above}
use Rattle.dispatcher.specs.Seats.{tasks_of, claims, marked_tasks}
use Rattle.workers.specs.Workers.{TookPieces}
use Rattle.workers.proofs.Workers.{IsWorking}
use Rattle.workers.proofs.worker.work.Given as goal

abbrev pub invariant-loop-claim : goal.invariant-loop-claim
invariant-loop-claim g l = record {
  working : IsWorking (tasks_of l.dispatcher) l.refused l.initial.seat l.seat;
  sent : g.P.Port.Tells → TookPieces l.inputs (g.P.Port.taken l.initial.port) (g.P.Port.taken l.port) (marked_tasks l.seat);
}

abbrev pub decreases-loop-claim : goal.decreases-loop-claim
decreases-loop-claim g l = 2 * tasks_of l.dispatcher - above (claims l.seat)
