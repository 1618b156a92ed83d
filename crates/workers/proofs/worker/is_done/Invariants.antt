use Rattle.std.proofs.Common.{◌≡◌}
use Rattle.dispatcher.specs.Seats.{claims, marked_tasks, seen_tasks, IsSameSeat}
use Rattle.workers.proofs.worker.is_done.Given as goal

abbrev pub invariant-loop-look : goal.invariant-loop-look
invariant-loop-look l = record {
  same : IsSameSeat l.fn.seat l.seat;
  claims : claims l.seat ≡ claims l.fn.seat;
  marked : marked_tasks l.seat ≡ marked_tasks l.fn.seat;
  seen : seen_tasks l.seat ≡ seen_tasks l.fn.seat;
}
