use Rattle.std.proofs.Common.{ℕ, ◌-◌, ◌*◌, ◌<◌, List, subst, sym, ◌∙◌, arith}
use Rattle.std.proofs.lemmas.Grind.{common_steps, elements}
use Rattle.dispatcher.specs.Seats.{claims, tasks_of}
use Rattle.tests_of_pipelines.proofs.claims.work.Goals as goal
use Rattle.dispatcher.proofs.Rising.{above, falls}

pub loop-task-smaller : goal.loop-task-smaller
loop-task-smaller c = let tasks : ℕ = tasks_of c.args.dispatcher.now in let before : List ℕ = claims c.loop-task.seat in
    subst (λ (after : List ℕ). 2 * tasks - above after < 2 * tasks - above before) (sym (c.mark_if.ensures.claims ∙ c.in-Task.ensures.claims))
    (falls tasks before c.in-Task.claim c.in-Task.ensures.rises c.in-Task.ensures.answer.0)

pub loop-task-preserved : goal.loop-task-preserved
loop-task-preserved c = record {
  same = grind (arith, common_steps);
  own = grind (arith, common_steps);
  more = grind (arith, elements);
}
