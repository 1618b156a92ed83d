use Rattle.std.proofs.Common.{◌-◌, ◌*◌}
use Rattle.dispatcher.proofs.Rising.{above}
use Rattle.dispatcher.specs.Seats.{claims, tasks_of, IsSameSeat, IsSeatOf, MayClaim}
use Rattle.tests_of_pipelines.proofs.claims.work.Given as goal

abbrev pub invariant-loop-task : goal.invariant-loop-task
invariant-loop-task l = record {
  same : IsSameSeat l.fn.seat l.seat;
  own : IsSeatOf l.dispatcher l.seat;
  more : MayClaim (tasks_of l.dispatcher) l.seat;
}

abbrev pub decreases-loop-task : goal.decreases-loop-task
decreases-loop-task l = 2 * tasks_of l.dispatcher - above (claims l.seat)
