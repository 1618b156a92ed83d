use Rattle.std.proofs.Common.{◌≡◌, ℕ, ◌||◌, All, vec_len}
use Rattle.std.specs.FinSet.{contains}
use Rattle.schedules.specs.Schedules.{covered_sets, some_covers}
use Rattle.schedules.proofs.rehearse.unite_all.Given as goal

abbrev pub invariant-loop-other : goal.invariant-loop-other
invariant-loop-other g l = record {
  inputs : l.first.inputs ≡ l.initial.first.inputs;
  own : All (λ v. v.inputs ≡ l.initial.first.inputs) l.others.items;
  covered : (task : ℕ) → (contains l.first.covered task || some_covers (covered_sets l.others.items) task)
      ≡ (contains l.initial.first.covered task || some_covers (covered_sets l.initial.others.items) task);
}

abbrev pub decreases-loop-other : goal.decreases-loop-other
decreases-loop-other g l = vec_len l.others
