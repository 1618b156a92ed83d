use Rattle.std.proofs.Common.{◌≡◌, ℕ, true, ◌∙◌, ap, arith, rules, ⊎_elim}
use Rattle.std.proofs.lemmas.Bool.{cases_eq}
use Rattle.std.proofs.lemmas.Bool.Decides.{nat_tests}
use Rattle.std.specs.Ordering.{nat_cmp}
use Rattle.std.specs.FinSet.{FinSet, contains, insert, members}
use Rattle.workers.proofs.caller_runs.run_missing.Goals as goal

insert_at : (s : FinSet nat_cmp) (t k : ℕ) → k ≡ t → contains (insert s t) k ≡ true
insert_at s t k h = grind (members, rules, nat_tests)

insert_before : (s : FinSet nat_cmp) (t k : ℕ) → contains s k ≡ true → contains (insert s t) k ≡ true
insert_before s t k h = grind (members, rules, nat_tests)

pub loop-task-preserved : goal.loop-task-preserved
loop-task-preserved g c =
    let before = c.loop-task.invariant in
    let more : c.run_task.new.gathering.covered ≡ insert c.loop-task.gathering.covered c.loop-task.task = search rules in record {
      inputs = search rules;
      covered = λ k below. ap (λ s. contains s k) more ∙ ⊎_elim (λ same. insert_at _ _ k same)
          (λ other. insert_before _ _ k (before.covered k (omega arith))) (cases_eq k c.loop-task.task);
      kept = λ k was. ap (λ s. contains s k) more ∙ insert_before _ _ k (before.kept k was);
    }
