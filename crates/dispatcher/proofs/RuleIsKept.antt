-- The rule holds at the start; steps, splits and joins keep it; at the end it holds of one seat that stands for all.
use Rattle.std.proofs.Common.{◌≡◌, ℕ, ◌+◌, ◌-◌, ◌*◌, ◌%◌, ◌^◌, ◌<◌, ◌≤◌, nat_le, cond, bit_or, List, [], ◌∷◌, ◌++◌}
use Rattle.std.proofs.Common.{slice_index, refl, inl, inr, ⊎_elim, arith, eq-zero-or-pos, append-nil, take-append-drop}
use Rattle.std.proofs.Math.ListN.{get_elem?, get_or, set, take, drop, length, length-append, length-set, replicate}
use Rattle.std.specs.List.{All, Contains, range_with_len, sum_by}
use Rattle.std.proofs.lemmas.Bool.Decides.{nat_tests}
use Rattle.std.proofs.lemmas.Grind.{common_steps}
use Rattle.std.proofs.lemmas.List.{set-get_or, nil_from_length}
use Rattle.std.proofs.lemmas.List.Elements.{All-set, All-push, Contains-get_or}
use Rattle.std.proofs.lemmas.List.FromFn.{length-range_with_len}
use Rattle.std.proofs.lemmas.List.Sums.{sum_by_push, sum_by-append, sum_by-le, get_or-le-sum_by}
use mathlib.Core.Option.{Option, none, some}
use Rattle.atomic_table.specs.Table.{State, Me, step, keeps, opening, Allows, Splits, Joins}
use Rattle.atomic_table.proofs.Lists.{set_else, set_again}
use Rattle.base.proofs.Lists.{get_or-replicate_itself}
use Rattle.base.specs.declared.limits.TheConstants.{MOST_TASKS, MOST_SEATS}
use Rattle.dispatcher.specs.declared.rule.View.{View}
use Rattle.dispatcher.specs.declared.rule.Size.{Size}
use Rattle.dispatcher.specs.Rule.{IsConsistent, IsFair, IsMarkWord, TellsClaim, TellsCount, TellsMark, TellsLook, joined_view, late_count, occurrences, unused_view}
use Rattle.dispatcher.proofs.Occurrences.{at_read, sum_set, sum_le, occurs_at, occurs_range, late_range}

-- of whatever adds up when views are joined, the new views have what the old ones had, and the gain
abbrev Gain : List View → View → List View → Type 0
Gain old gain new = (amount : View → ℕ) → ((one two : View) → amount (joined_view one two) ≡ amount one + amount two)
    → sum_by amount new ≡ sum_by amount old + amount gain

unused_is_fair : {size : Size} {numbers : List ℕ} → IsFair size (unused_view numbers)
unused_is_fair = record { late_claims = omega arith; spent = λ _. (refl, refl, refl) }

spent_is_unused : {size : Size} (view : View) → IsFair size view → length view.numbers ≡ 0 → view ≡ unused_view []
spent_is_unused view fair empty = let spent = fair.spent empty in let numbers = nil_from_length view.numbers empty in
    λ i. record { numbers = numbers i; claims = spent.0 i; marked = spent.1 i; seen = spent.2 i }

joined_is_fair : {size : Size} (one two : View) → IsFair size one → IsFair size two → IsFair size (joined_view one two)
joined_is_fair one two first second = let numbers = length-append one.numbers two.numbers in record {
  late_claims = simp (sum_by-append, length-append) (omega (arith, first.late_claims, second.late_claims));
  spent = λ empty. let idle = first.spent (omega arith) in simp (idle.0, idle.1, idle.2) (second.spent (omega arith));
}

pub opens : (size : Size) → (size.tasks ≤ MOST_TASKS) × (size.seats ≤ MOST_SEATS)
    → IsConsistent size (opening (replicate (size.tasks + 1) 0) [] (unused_view (range_with_len 0 size.seats)))
opens size small = let zero_at = λ (index : ℕ). get_or-replicate_itself {X = ℕ} (size.tasks + 1) index 0 in record {
  wide = grind (arith, common_steps);
  small = small;
  claims_once = λ claim. rw (zero_at 0) (grind (arith, nat_tests));
  numbers_once = λ number. let each = occurs_range number 0 size.seats in grind (arith, nat_tests);
  all_seats = omega (arith, length-range_with_len 0 size.seats);
  late = omega (arith, zero_at 0);
  marks = λ task. (zero_at (task + 1), λ none. absurd (omega arith));
  each = All-push (IsFair size) [] _ (λ place spare none. absurd (omega arith)) unused_is_fair;
}

module _ {size : Size} {state : State (Unit {0}) View} (rule : IsConsistent size state) (id : ℕ) {view : View}
    (at : get_elem? state.views id ≡ some view) where
  -- word 0 is at most twice the tasks and one for each seat
  pub count_at_most : slice_index state.words 0 ≤ 2 * size.tasks + size.seats
  count_at_most = let late = sum_le (λ one. late_count size.tasks one.claims) (λ one. length one.numbers) (λ one. 0)
      state.views (λ place spare below. omega (arith, (rule.each place spare below).late_claims)) in
      omega (arith, sum_by-le (λ one. 0) 0 state.views (λ place spare below. omega arith))

  fair_at : IsFair size view
  fair_at = let read = at_read state.views id view view at in rw read.1 at (rule.each id view read.0)

  -- each claim of a seat is below word 0
  claims_below : All (λ claim. claim < slice_index state.words 0) view.claims
  claims_below place spare below = let claim = get_or view.claims place spare in let once = rule.claims_once claim in
      let has = Contains-get_or view.claims place spare below in
      let made = occurs_at (λ (one : View). one.claims) claim state.views id view at has in grind (arith, nat_tests)

  -- later words, with so many more claims, and tasks that were marked and seen since
  module _ (words : List ℕ) (wide : length words ≡ length state.words) (more : ℕ) (marked seen : List ℕ)
      (first : slice_index words 0 ≡ slice_index state.words 0 + more)
      (marks : (task had saw : ℕ) → IsMarkWord (slice_index state.words (task + 1)) had saw
      → IsMarkWord (slice_index words (task + 1)) (had + occurrences task marked) (saw + occurrences task seen)) where
    abbrev gain : View
    gain = record { numbers = []; claims = range_with_len (slice_index state.words 0) more; marked = marked; seen = seen }

    gained : {homes : List (Option (Unit {0}))} (views : List View) → Gain state.views gain views
        → All (IsFair size) views → IsConsistent size (record { words = words; homes = homes; views = views })
    gained views sums fair = record {
      wide = omega arith;
      small = rule.small;
      claims_once = λ claim. let made = sums (λ one. occurrences claim one.claims) (search sum_by-append) in
          rw first (omega (arith, occurs_range claim (slice_index state.words 0) more, rule.claims_once claim));
      numbers_once = λ number. let had = sums (λ one. occurrences number one.numbers) (search sum_by-append) in
          omega (arith, rule.numbers_once number);
      all_seats = let had = sums (λ one. length one.numbers) (search length-append) in omega arith;
      late = let made = sums (λ one. late_count size.tasks one.claims) (search sum_by-append) in
          omega (arith, late_range size.tasks (slice_index state.words 0) more);
      marks = λ task. let marked = sums (λ one. occurrences task one.marked) (search sum_by-append) in
          let seen = sums (λ one. occurrences task one.seen) (search sum_by-append) in
          rw (marked, seen) (marks task _ _ (rule.marks task));
      each = fair;
    }

    -- the seat, which has one number, takes all that is gained
    seat_gains : length view.numbers ≡ 1 → late_count size.tasks view.claims + more ≤ 1 → IsConsistent size
        (record { words = words; homes = state.homes; views = set state.views id (joined_view view gain) })
    seat_gains one few = let next : View = joined_view view gain in let numbers = length-append view.numbers [] in
        let late = late_range size.tasks (slice_index state.words 0) more in gained (set state.views id next)
        (λ amount adds. omega (arith, sum_set amount state.views id _ next at, adds view gain))
        (All-set (IsFair size) state.views id next
        (record { late_claims = simp sum_by-append (omega arith); spent = λ empty. absurd (omega arith) }) rule.each)

  -- other views, which have as much together
  regrouped : {homes : List (Option (Unit {0}))} (views : List View) → Gain state.views (unused_view []) views
      → All (IsFair size) views → IsConsistent size (record { words = state.words; homes = homes; views = views })
  regrouped = gained state.words refl 0 [] [] (omega arith) (λ task had saw is. grind arith)

  -- where this seat has all numbers the others have done nothing, so the rule holds of it alone
  pub alone : length view.numbers ≡ size.seats → IsConsistent size (opening state.words [] view)
  alone all = let unused : View = unused_view [] in let others = set state.views id unused in
      let fair = All-set (IsFair size) state.views id unused unused_is_fair rule.each in
      let no_number = sum_set (λ one. length one.numbers) state.views id _ unused at in regrouped (view ∷ [])
      (λ amount adds. let nothing = adds unused unused in let none = sum_by-le amount 0 others (λ place spare below.
      let part = get_or-le-sum_by (λ one. length one.numbers) others place spare below in
      rw (spent_is_unused _ (fair place spare below) (omega arith)) (omega arith)) in
      omega (arith, sum_set amount state.views id _ unused at))
      (All-push (IsFair size) [] view (λ place spare none. absurd (omega arith)) fair_at)

pub counts : {size : Size} {slots : ℕ} (id : ℕ) {me : Me (Unit {0}) View}
    → Allows (IsConsistent size) slots id me 0 (λ count. count) (TellsCount (step slots 0 0 0 none) me)
counts id {me} state rule _ at _ = let few = count_at_most rule id at in let kept = claims_below rule id at in
    (me.0, keeps, tt, rw (set-get_or, set_again state.views id me.0 at) rule, (refl, kept, omega (arith, few, rule.small)))

module _ {size : Size} {slots : ℕ} (id : ℕ) {me : Me (Unit {0}) View} (one : length me.0.numbers ≡ 1) where
  pub claims : All (λ claim. claim < 2 * size.tasks) me.0.claims
      → Allows (IsConsistent size) slots id me 0 (λ count. (count + 1) % 2 ^ 64) (TellsClaim (step slots 0 1 0 none) me)
  claims gave state rule _ at _ = let count : ℕ = slice_index state.words 0 in let few = count_at_most rule id at in
      let more : (count + 1) % 2 ^ 64 ≡ count + 1 = omega arith in
      let none_late = sum_by-le (λ claim. cond (nat_le (2 * size.tasks) claim) 1 0) 0 me.0.claims
      (λ place spare below. grind (arith, nat_tests, gave place spare below)) in
      let kept = seat_gains rule id at (set state.words 0 ((count + 1) % 2 ^ 64)) (length-set _ _ _) 1 [] []
      (grind (arith, common_steps)) (λ task had saw is. grind (arith, common_steps)) one (omega arith) in
      (_, keeps, tt, kept, (simp append-nil, claims_below rule id at))

  module _ (task : ℕ) (in_range : task < size.tasks) where
    pub marks : Allows (IsConsistent size) slots id me (task + 1) (λ word. bit_or word 1)
        (TellsMark (step slots (task + 1) 1 0 none) me)
    marks state rule _ at _ = let word : ℕ = slice_index state.words (task + 1) in let was = rule.marks task in
        let set_to : bit_or word 1 ≡ 1 = grind (arith, common_steps) in let few = (fair_at rule id at).late_claims in
        let kept = seat_gains rule id at (set state.words (task + 1) (bit_or word 1)) (length-set _ _ _)
        0 (task ∷ []) (task ∷ []) (grind (arith, common_steps))
        (λ other had saw is. grind (arith, nat_tests, common_steps)) one (omega arith) in
        let same : task + 1 - 1 ≡ task = omega arith in (_, keeps, tt, kept, simp (same, append-nil))

    pub looks : Allows (IsConsistent size) slots id me (task + 1) (λ word. word)
        (TellsLook (step slots (task + 1) 0 0 none) me)
    looks state rule _ at _ = let word : ℕ = slice_index state.words (task + 1) in let was = rule.marks task in
        let few = (fair_at rule id at).late_claims in let same : task + 1 - 1 ≡ task = omega arith in ⊎_elim
        (λ (clear : word ≡ 0). let unseen : Contains me.0.seen task → ⊥ = λ has.
        let saw = occurs_at (λ (one : View). one.seen) task state.views id me.0 at has in omega arith in
        (me.0, keeps, tt, rw (set-get_or, set_again state.views id me.0 at) rule, inl (clear, rw same unseen, refl)))
        (λ (on : 0 < word). let kept = rw (← set-get_or state.words (task + 1) 0) at (seat_gains rule id at state.words
        refl 0 [] (task ∷ []) (omega arith) (λ other had saw is. grind (arith, nat_tests)) one (omega arith)) in
        (_, keeps, tt, kept, inr (omega arith, simp (same, append-nil)))) (eq-zero-or-pos word)

pub splits : (size : Size) (id : ℕ) (numbers : List ℕ)
    → Splits (IsConsistent size) id (unused_view numbers) (unused_view (drop 1 numbers)) (unused_view (take 1 numbers))
splits size id numbers state rule at = let left : View = unused_view (drop 1 numbers) in
    let right : View = unused_view (take 1 numbers) in let others = set state.views id left in
    regrouped rule id at (others ++ right ∷ [])
    (λ amount adds. let cut = rw take-append-drop at (adds right left) in let nothing = adds (unused_view []) right in
    let less = sum_set amount state.views id _ left at in omega (arith, sum_by_push amount others right))
    (All-push (IsFair size) _ right (All-set (IsFair size) state.views id left unused_is_fair rule.each) unused_is_fair)

pub joins : (size : Size) (id : ℕ) (view : View) (other : ℕ) (taken : View)
    → Joins (IsConsistent size) id view other taken (joined_view view taken) (unused_view [])
joins size id view other taken state rule at apart there = let both : View = joined_view view taken in
    let views = set state.views id both in let taken_at = rw (set_else state.views id other both apart) at there in
    let fair = joined_is_fair view taken (fair_at rule id at) (fair_at rule other taken_at) in
    regrouped rule id at (set views other (unused_view []))
    (λ amount adds. let first = sum_set amount state.views id _ both at in
    omega (arith, sum_set amount views other _ (unused_view []) there, adds view taken))
    (All-set (IsFair size) views other _ unused_is_fair (All-set (IsFair size) state.views id both fair rule.each))
