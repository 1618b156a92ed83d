use Rattle.std.proofs.Common.{rules, ◌≡◌, ◌∙◌, ◌++◌, ◌∷◌, [], ◌*◌, ℕ, List, All, ◌<◌, ◌-◌, Contains, true, false, sym, subst, arith, append-nil}
use Rattle.std.proofs.lemmas.List.Elements.{Contains-push}
use Rattle.dispatcher.proofs.Rising.{above, above_le, falls}
use Rattle.dispatcher.specs.Seats.{tasks_of, claims, marked_tasks, seen_tasks}
use Rattle.workers.proofs.Workers.{took_more, turn_more, no_more, saw_all}
use Rattle.workers.proofs.worker.work.Goals as goal

pub loop-claim-preserved-in-Some : goal.loop-claim-preserved-in-Some
loop-claim-preserved-in-Some g c =
    let before = c.loop-claim.invariant in
    let claimed : claims c.mark.new.seat ≡ claims c.loop-claim.seat ++ c.in-Task.claim ∷ [] = search rules in
    let marked : marked_tasks c.mark.new.seat ≡ marked_tasks c.loop-claim.seat ++ c.in-Task.task ∷ [] = search rules in
    let seen : seen_tasks c.mark.new.seat ≡ seen_tasks c.loop-claim.seat ++ c.in-Task.task ∷ [] = search rules in record {
      working = turn_more before.working _ claimed (search rules) c.in-Task.ensures.rises c.in-Task.ensures.answer.0 true _
          (rw (← c.in-Task.ensures.answer.1) seen) (omega arith) (omega arith);
      sent = λ t. took_more _ (before.sent t) (c.in-Some.ensures t) marked;
    }

pub overflow_add-refused : goal.overflow_add-refused
overflow_add-refused g c =
    let le = above_le (claims c.loop-claim.seat) (2 * tasks_of c.args.dispatcher.now) c.loop-claim.invariant.working.more in
    let few = c.count.ensures.few in
    let many = c.count.ensures.count in
    omega (arith, c.loop-claim.invariant.working.counted, c.requires.tasks)

pub loop-claim-preserved-in-None : goal.loop-claim-preserved-in-None
loop-claim-preserved-in-None g c =
    let before = c.loop-claim.invariant in record {
      working = turn_more before.working c.in-Task.claim (search rules) (search rules) c.in-Task.ensures.rises c.in-Task.ensures.answer.0 false _
          (rw append-nil (search rules)) (omega arith) (omega arith);
      sent = λ t. let took = before.sent t in record {
        pieces = took.pieces;
        taken = c.in-None.ensures t ∙ took.taken;
        in_order = took.in_order ∙ (search rules);
        own = took.own;
      };
    }

pub loop-claim-preserved : goal.loop-claim-preserved
loop-claim-preserved g c =
    let before = c.loop-claim.invariant in
    let seen : seen_tasks c.is_done.new.seat ≡ seen_tasks c.loop-claim.seat ++ c.in-Task.task ∷ [] = search rules in record {
      working = turn_more before.working c.in-Task.claim (search rules) (search rules) c.in-Task.ensures.rises c.in-Task.ensures.answer.0 true _
          (rw (← c.in-Task.ensures.answer.1) seen) (omega arith) (omega arith);
      sent = λ t. let took = before.sent t in record {
        pieces = took.pieces;
        taken = took.taken;
        in_order = took.in_order ∙ (search rules);
        own = took.own;
      };
    }

pub returns-clause-seen : goal.returns-clause-seen
returns-clause-seen g c =
    saw_all (no_more c.loop-claim.invariant.working {t = c.claim.new.seat} _ c.in_default.ensures.claims c.in_default.ensures.answer
    c.in_default.ensures.seen)

pub returns-clause-done : goal.returns-clause-done
returns-clause-done g c =
    no_more c.loop-claim.invariant.working _ c.in_default.ensures.claims c.in_default.ensures.answer c.in_default.ensures.seen

pub mark-requires-clause-given : goal.mark-requires-clause-given
mark-requires-clause-given g c =
    let claimed : claims c.is_done.new.seat ≡ claims c.loop-claim.seat ++ c.in-Task.claim ∷ [] = search rules in (
      c.in-Task.claim,
      subst (λ w. Contains w c.in-Task.claim) (sym claimed) (Contains-push (claims c.loop-claim.seat) c.in-Task.claim),
      (c.in-Task.ensures.answer.0, sym c.in-Task.ensures.answer.1),
    )

falls_to : (tasks : ℕ) (xs ys : List ℕ) {c : ℕ} → ys ≡ xs ++ c ∷ [] → All (λ x. x < c) xs → c < 2 * tasks
    → 2 * tasks - above ys < 2 * tasks - above xs
falls_to tasks xs ys {c} more rises gives = rw more (falls tasks xs c rises gives)

pub loop-claim-smaller : goal.loop-claim-smaller
loop-claim-smaller g c =
    falls_to _ _ (claims c.is_done.new.seat) (search rules) c.in-Task.ensures.rises c.in-Task.ensures.answer.0

pub loop-claim-smaller-in-Some : goal.loop-claim-smaller-in-Some
loop-claim-smaller-in-Some g c =
    falls_to _ _ (claims c.mark.new.seat) (search rules) c.in-Task.ensures.rises c.in-Task.ensures.answer.0

pub loop-claim-smaller-in-None : goal.loop-claim-smaller-in-None
loop-claim-smaller-in-None g c =
    falls_to _ _ (claims c.is_done.new.seat) (search rules) c.in-Task.ensures.rises c.in-Task.ensures.answer.0
