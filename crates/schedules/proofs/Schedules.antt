-- The tasks that have arrived are those that some gatherer covers.
use Rattle.std.proofs.Common.{◌≡◌, ◌≢◌, ℕ, zero, suc, ◌+◌, ◌<◌, ◌≤◌, ◌==◌, ◌&&◌, ◌||◌, nat_lt, Bool, true, false, not, cond, List, [], ◌∷◌, ◌++◌}
use Rattle.std.proofs.Common.{Some, None, remove, length, fold, get_or, set, slice_index_or, replicate, find, refl, sym, ◌∙◌, ap, arith, rules, inl, inr}
use Rattle.std.proofs.Common.{nat_cmp}
use Rattle.std.proofs.lemmas.Bool.{cases_lt, cases_Bool, lt-ltb}
use Rattle.std.proofs.lemmas.Bool.Decides.{nat_tests}
use Rattle.std.proofs.lemmas.List.{length-map, length-replicate, length-set, map_push, map-set, get_or-map, get_or-set_other, set_past}
use Rattle.std.proofs.lemmas.List.Folds.{list_any-append}
use Rattle.std.specs.Cmp.{nat_cmp_total}
use Rattle.std.specs.List.{range_with_len}
use Rattle.std.specs.FinSet.{FinSet, contains, contains-empty, insert, union, empty, members, contains-union}
use Rattle.gathering.specs.Views.{GatheringView}
use Rattle.schedules.specs.Schedules.{Event, after, brings, covered_sets, first_left, has_arrived, some_covers}
use Rattle.schedules.specs.declared.event.Event.TheVariants.{Arrive, Lose, Merge}

abbrev pub Sets : Type 0
Sets = List (FinSet nat_cmp)

-- the set of one gatherer
abbrev set_of : Sets → ℕ → FinSet nat_cmp
set_of sets gatherer = slice_index_or sets gatherer empty

-- two different gatherers of those that there are
abbrev are_two : ℕ → ℕ → ℕ → Bool
are_two gatherers a b = nat_lt a gatherers && nat_lt b gatherers && not (a == b)

module _ {A : Type 0} where
  set_of_at : (gs : List (GatheringView A)) (i : ℕ) (g : GatheringView A) → i < length gs → g ≡ get_or gs i g
      → set_of (covered_sets gs) i ≡ g.covered
  set_of_at gs i g h e = get_or-map (λ v. v.covered) gs i g empty h ∙ ap (λ v. v.covered) (sym e)

  -- an arrival in range
  pub arrive_step : (gs : List (GatheringView A)) (i t n : ℕ) (g h : GatheringView A) → i < length gs → t < n
      → g ≡ get_or gs i g → h.covered ≡ insert g.covered t
      → covered_sets (set gs i h) ≡ after n (covered_sets gs) (Arrive i t)
  arrive_step gs i t n g h within task at more =
      let known = set_of_at gs i g within at in let test = lt-ltb t n task in
      let written = map-set (λ v. v.covered) gs i h in cc

  -- a merge of two
  pub merge_step : (gs : List (GatheringView A)) (a b n : ℕ) (e f g h : GatheringView A) → a < length gs → b < length gs → a ≢ b
      → e.covered ≡ empty → f ≡ get_or gs b f → g ≡ get_or (set gs b e) a g → h.covered ≡ union g.covered f.covered
      → covered_sets (set (set gs b e) a h) ≡ after n (covered_sets gs) (Merge a b)
  merge_step gs a b n e f g h ha hb differ none other own more =
      let long = length-map gs (λ v. v.covered) in
      let test : are_two (length (covered_sets gs)) a b ≡ true = grind (arith, rules, nat_tests) in
      let there = set_of_at gs b f hb other in
      let mine : g ≡ get_or gs a g = own ∙ get_or-set_other gs b a e g differ in
      let here = set_of_at gs a g ha mine in
      let outer = map-set (λ v. v.covered) (set gs b e) a h in
      let inner = map-set (λ v. v.covered) gs b e in cc

-- what is covered after one event, whatever was covered before
module _ (tasks t : ℕ) where
  -- a set covers the task if q says so, or if it did before
  gains : (sets : Sets) (i : ℕ) (new : FinSet nat_cmp) (q : Bool) → i < length sets → contains new t ≡ (q || contains (set_of sets i) t)
      → some_covers (set sets i new) t ≡ (q || some_covers sets t)
  gains [] i new q within more = absurd (omega arith)
  gains (s ∷ sets) zero new q within more = rw more (grind arith)
  gains (s ∷ sets) (suc i) new q within more = rw (gains sets i new q (omega arith) more) (grind arith)

  -- a set gives all away that it covers
  gives : (sets : Sets) (i : ℕ) → i < length sets → (contains (set_of sets i) t || some_covers (set sets i empty) t) ≡ some_covers sets t
  gives [] i within = absurd (omega arith)
  gives (s ∷ sets) zero within = rw (contains-empty nat_cmp t) refl
  gives (s ∷ sets) (suc i) within = let others = gives sets i (omega arith) in grind arith

  union_covers : (sets : Sets) (a b : ℕ) → are_two (length sets) a b ≡ true
      → some_covers (set (set sets b empty) a (union (set_of sets a) (set_of sets b))) t ≡ some_covers sets t
  union_covers sets a b two =
      let parts : (a < length sets) × (b < length sets) = (grind (arith, nat_tests), grind (arith, nat_tests)) in
      let kept : set_of (set sets b empty) a ≡ set_of sets a = get_or-set_other sets b a empty empty (λ same. grind (arith, nat_tests)) in
      let both = contains-union nat_cmp_total (set_of sets a) (set_of sets b) t in
      gains (set sets b empty) a _ (contains (set_of sets b) t) (rw length-set parts.0) (rw (kept, both) (grind arith)) ∙ gives sets b parts.1

  step_covers : (e : Event) (sets : Sets) → some_covers (after tasks sets e) t ≡ ((nat_lt t tasks && brings (length sets) t e) || some_covers sets t)
  step_covers (Arrive gatherer task) sets =
      let new = insert (set_of sets gatherer) task in
      elim (cases_lt gatherer (length sets)) [
        | inl within ↦ (let more = gains sets gatherer new (task == t) within (grind (members, rules, nat_tests)) in grind (arith, rules, nat_tests))
        | inr past ↦ (let still = set_past sets gatherer new past in grind (arith, rules, nat_tests))
      ]
  step_covers (Lose task) sets = grind arith
  step_covers (Merge into other) sets = elim (cases_Bool (are_two (length sets) into other)) [
    | inl two ↦ (rw two (union_covers sets into other two ∙ grind arith))
    | inr none ↦ (rw none (grind arith))
  ]

  length-after : (e : Event) (sets : Sets) → length (after tasks sets e) ≡ length sets
  length-after (Arrive gatherer task) sets = grind (arith, rules, length-set {A = FinSet nat_cmp})
  length-after (Lose task) sets = refl
  length-after (Merge into other) sets = grind (arith, rules, length-set {A = FinSet nat_cmp})

  -- the tasks that some gatherer covers are those that have arrived, and those that were covered before
  pub all_covers : (events : List Event) (sets : Sets)
      → some_covers (fold (after tasks) sets events) t ≡ ((nat_lt t tasks && has_arrived (length sets) events t) || some_covers sets t)
  all_covers [] sets = grind arith
  all_covers (e ∷ events) sets =
      let later = all_covers events (after tasks sets e) in
      let long = length-after e sets in
      let first = step_covers e sets in
      rw (later, long, first) (grind arith)

  none_covers : (n : ℕ) → some_covers (replicate n empty) t ≡ false
  none_covers zero = refl
  none_covers (suc n) = let none = contains-empty nat_cmp t in let rest = none_covers n in cc

-- from empty gatherers on, they are those that have arrived
pub arrived_covers : (gatherers tasks : ℕ) (events : List Event) (t : ℕ)
    → some_covers (fold (after tasks) (replicate gatherers empty) events) t ≡ (nat_lt t tasks && has_arrived gatherers events t)
arrived_covers gatherers tasks events t =
    let long : length (replicate gatherers (empty {R = nat_cmp})) ≡ gatherers = length-replicate gatherers empty in
    let none = none_covers tasks t gatherers in
    let all = all_covers tasks t events (replicate gatherers empty) in rw (all, long, none) (grind arith)

-- ---- gatherings that are made, merged and asked

-- the last of the others is merged into the first
pub last_merged : {A : Type 0} (gs hs : List (GatheringView A)) (g : GatheringView A) (s u : FinSet nat_cmp) (t : ℕ) → gs ≡ hs ++ g ∷ []
    → u ≡ union s g.covered → (contains u t || some_covers (covered_sets hs) t) ≡ (contains s t || some_covers (covered_sets gs) t)
last_merged gs hs g s u t split both =
    let united = contains-union nat_cmp_total s g.covered t in
    let all = list_any-append (λ v. contains v t) (covered_sets hs) (g.covered ∷ []) in
    rw (both, united, split, map_push, all) (grind arith)

length-after_all : (tasks : ℕ) (events : List Event) (sets : Sets) → length (fold (after tasks) sets events) ≡ length sets
length-after_all tasks [] sets = refl
length-after_all tasks (e ∷ events) sets = length-after_all tasks events (after tasks sets e) ∙ length-after tasks 0 e sets

-- what the events made of empty gatherings
module _ {A : Type 0} (gs : List (GatheringView A)) (gatherers tasks : ℕ) (events : List Event)
    (done : covered_sets gs ≡ fold (after tasks) (replicate gatherers empty) events) where
  pub as_many : length gs ≡ gatherers
  as_many = let long = length-after_all tasks events (replicate gatherers empty) in
      omega (arith, length-map gs (λ v. v.covered), ap length done, length-replicate gatherers (empty {R = nat_cmp}))

  -- the first and the others cover together what has arrived
  pub gathered : (g : GatheringView A) (t : ℕ) → 0 < gatherers → g ≡ get_or gs 0 g
      → some_covers (g.covered ∷ covered_sets (remove gs 0)) t ≡ (nat_lt t tasks && has_arrived gatherers events t)
  gathered g t some first = ap (λ sets. some_covers sets t) (split gs (rw as_many some) first ∙ done) ∙ arrived_covers gatherers tasks events t
    where
      split : (all : List (GatheringView A)) → 0 < length all → g ≡ get_or all 0 g → g.covered ∷ covered_sets (remove all 0) ≡ covered_sets all
      split [] none e = absurd (omega arith)
      split (x ∷ others) some e = ap (λ v. v.covered ∷ covered_sets others) e

-- the first number that passes is t, or none does and t is the end
first_is : (p : ℕ → Bool) (n a t : ℕ) → a ≤ t → t ≤ a + n → ((u : ℕ) → a ≤ u → u < t → p u ≡ false) → (t < a + n → p t ≡ true)
    → find p (range_with_len a n) ≡ cond (nat_lt t (a + n)) (Some t) None
first_is p zero a t low high fails passes = grind (arith, nat_tests)
first_is p (suc n) a t low high fails passes = elim (cases_lt a t) [
  | inl before ↦ (let here = fails a (omega arith) before in
      let later = first_is p n (a + 1) t (omega arith) (omega arith) (λ u above below. fails u (omega arith) below) (λ more. passes (omega arith)) in
      grind (arith, nat_tests))
  | inr past ↦ (let same : t ≡ a = omega arith in let here = passes (omega arith) in grind (arith, nat_tests))
]

-- where all have arrived none is left
pub none_left : (gatherers tasks : ℕ) (events : List Event) → ((u : ℕ) → u < tasks → has_arrived gatherers events u ≡ true)
    → first_left gatherers tasks events ≡ None
none_left gatherers tasks events all =
    let is = first_is (λ u. not (has_arrived gatherers events u)) tasks 0 tasks (omega arith) (omega arith) (λ u low below. ap not (all u below))
    (λ no. absurd (omega arith)) in grind (arith, nat_tests)

module _ (gatherers tasks : ℕ) (events : List Event) (covered : FinSet nat_cmp)
    (arrived : (t : ℕ) → contains covered t ≡ (nat_lt t tasks && has_arrived gatherers events t))
  where
    has : (t : ℕ) → t < tasks → has_arrived gatherers events t ≡ contains covered t
    has t within = let is = arrived t in grind (arith, nat_tests)

    -- the least task that is not covered is the least that has not arrived
    pub first_left_is : (t : ℕ) → t < tasks → contains covered t ≡ false → ((u : ℕ) → u < t → contains covered u ≡ true)
        → first_left gatherers tasks events ≡ Some t
    first_left_is t within missing least =
        let is = first_is (λ u. not (has_arrived gatherers events u)) tasks 0 t (omega arith) (omega arith)
        (λ u low below. ap not (has u (omega arith) ∙ least u below)) (λ more. ap not (has t within ∙ missing)) in grind (arith, nat_tests)
