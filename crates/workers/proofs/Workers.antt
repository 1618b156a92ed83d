-- One step more of a worker's run.
use Rattle.std.proofs.Common.{◌≡◌, ℕ, ◌+◌, ◌*◌, ◌<◌, ◌≤◌, ◌%◌, Bool, true, false, not, cond, List, [], ◌∷◌, ◌++◌, Some, slice_get, All, Contains, count_by}
use Rattle.std.proofs.Common.{map, sym, ◌∙◌, ap, ap₂, arith, inl, inr, refl, subst}
use Rattle.std.proofs.lemmas.List.{append_assoc, get_or-map, length-map, map-append}
use Rattle.std.proofs.lemmas.List.Elements.{All-append, All-push, Contains-push_cases, Contains-append_right, filter-append}
use Rattle.std.proofs.lemmas.List.Sums.{sum_by-cons, sum_by_push}
use Rattle.dispatcher.proofs.Rising.{above, above_snoc, above_le}
use Rattle.dispatcher.specs.Seats.{IsSameSeat, MayClaim, WasGiven, claims, seen_tasks}
use Rattle.dispatcher.specs.declared.seat.Seat.{Seat}
use Rattle.gathering.specs.Views.{PieceView}
use Rattle.workers.specs.Workers.{IsDone, TookPieces, Turn, tasks_marked}

-- one piece more was taken, and its task is one more number
pub took_more : {A : Type 0} (inputs : List A) {before after after' : List (PieceView A)} {numbers numbers' : List ℕ} {task : ℕ}
    → TookPieces inputs before after numbers → TookPieces inputs after after' (task ∷ []) → numbers' ≡ numbers ++ task ∷ []
    → TookPieces inputs before after' numbers'
took_more inputs {before} t one more = record {
  pieces = t.pieces ++ one.pieces;
  taken = one.taken ∙ ap (λ w. w ++ one.pieces) t.taken ∙ append_assoc before t.pieces one.pieces;
  in_order = map-append (λ p. p.number) t.pieces one.pieces ∙ ap₂ (λ v w. v ++ w) t.in_order one.in_order ∙ sym more;
  own = All-append (λ p. slice_get inputs p.number ≡ Some p.input) t.pieces one.pieces t.own one.own;
}

-- the turns so far: each claim gave a task, and is one; the claims bound how many tasks were left unmarked
pub record IsWorking (tasks count : ℕ) (before seat : Seat) : Type 0 where
  pub same : IsSameSeat before seat
  pub more : MayClaim tasks seat
  pub counted : count ≤ above (claims seat)
  pub turns : List Turn
  pub claimed : claims seat ≡ map (λ t. t.claim) turns
  pub seen : seen_tasks seat ≡ seen_tasks before ++ tasks_marked tasks turns
  pub left : count_by (λ t. not t.is_marked) turns ≡ count

marked_more : (tasks : ℕ) (turns : List Turn) (t : Turn)
    → tasks_marked tasks (turns ++ t ∷ []) ≡ tasks_marked tasks turns ++ tasks_marked tasks (t ∷ [])
marked_more tasks turns t = rw (filter-append, map-append) refl

module _ {tasks count : ℕ} {before s : Seat} (so_far : IsWorking tasks count before s) {t : Seat} (c : ℕ) (claimed : claims t ≡ claims s ++ c ∷ []) where
  -- one claim more, whose task is marked or left unmarked
  pub turn_more : IsSameSeat s t → All (λ x. x < c) (claims s) → c < 2 * tasks → (b : Bool) (n : ℕ)
      → seen_tasks t ≡ seen_tasks s ++ tasks_marked tasks (record { claim = c; is_marked = b } ∷ []) → n ≡ count + cond (not b) 1 0 → n ≤ count + 1
      → IsWorking tasks n before t
  turn_more same rises gives b n seen left few =
      let turn : Turn = record { claim = c; is_marked = b } in record {
        same = (same.0 ∙ so_far.same.0, same.1 ∙ so_far.same.1);
        more = subst (All (λ x. x < 2 * tasks)) (sym claimed) (All-push (λ x. x < 2 * tasks) (claims s) c so_far.more gives);
        counted = omega (arith, few, so_far.counted, above_snoc (claims s) c, above_le (claims s) c rises, ap above claimed);
        turns = so_far.turns ++ turn ∷ [];
        claimed = claimed ∙ rw (so_far.claimed, map-append) refl;
        seen = seen ∙ rw (so_far.seen, marked_more, append_assoc) refl;
        left = sum_by_push (λ t. cond (not t.is_marked) 1 0) so_far.turns turn ∙ ap (λ k. k + cond (not b) 1 0) so_far.left ∙ sym left;
      }

  -- one claim more finds no task
  abbrev pub no_more : 2 * tasks ≤ c → seen_tasks t ≡ seen_tasks s → IsDone tasks count before t
  no_more past seen = record {
    turns = so_far.turns;
    last = c;
    claimed = claimed ∙ ap (λ l. l ++ c ∷ []) so_far.claimed;
    gave = subst (All (λ x. x < 2 * tasks)) so_far.claimed so_far.more;
    found_none = past;
    seen = seen ∙ so_far.seen;
    left = so_far.left;
  }

-- where no turn is left unmarked, the tasks that were marked or seen marked are those of all claims
all_marked : (tasks : ℕ) (turns : List Turn) → count_by (λ t. not t.is_marked) turns ≡ 0
    → tasks_marked tasks turns ≡ map (λ c. c % tasks) (map (λ t. t.claim) turns)
all_marked tasks [] none = refl
all_marked tasks (t ∷ turns) none =
    by t.is_marked refl (all_marked tasks turns (omega (arith, none, sum_by-cons (λ t. cond (not t.is_marked) 1 0) t turns)))
  where
    by : (b : Bool) → t.is_marked ≡ b → tasks_marked tasks turns ≡ map (λ c. c % tasks) (map (λ t. t.claim) turns)
        → tasks_marked tasks (t ∷ turns) ≡ map (λ c. c % tasks) (map (λ t. t.claim) (t ∷ turns))
    by true e rest = rw e (ap (λ l. t.claim % tasks ∷ l) rest)
    by false e rest =
        let one : ◌≡◌ {A = ℕ} (cond (not t.is_marked) 1 0) 1 = rw e refl in
        absurd (omega (arith, one, none, sum_by-cons (λ t. cond (not t.is_marked) 1 0) t turns))

-- if no turn is left unmarked, each task that the seat was given was marked, or seen marked
pub saw_all : {tasks count : ℕ} {before seat : Seat} → IsDone tasks count before seat → count ≡ 0 → (task : ℕ) → WasGiven tasks seat task
    → Contains (seen_tasks seat) task
saw_all {tasks} {before = before} m none task (c, given, (gives, same)) =
    elim (Contains-push_cases (map (λ t. t.claim) m.turns) m.last c (subst (λ l. Contains l c) m.claimed given)) [
      | inl (i, below, at) ↦ (let of : Contains (map (λ c. c % tasks) (map (λ t. t.claim) m.turns)) (c % tasks) = (
        i,
        omega (arith, below, length-map (map (λ t. t.claim) m.turns) (λ c. c % tasks)),
        get_or-map (λ c. c % tasks) _ i c _ below ∙ ap (λ c. c % tasks) at,
      ) in
          rw (m.seen, all_marked tasks m.turns (m.left ∙ none), ← same) (Contains-append_right (seen_tasks before) _ (c % tasks) of))
      | inr e ↦ absurd (omega (arith, e, gives, m.found_none))
    ]
