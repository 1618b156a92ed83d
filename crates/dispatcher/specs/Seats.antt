-- What contracts see of a dispatcher, of its seats and of what their claims give.
-- To be believed of a crate used by itself.
use Rattle.std.specs.Prelude.{◌≡◌, ℕ, ◌*◌, ◌%◌, ◌<◌, ◌≤◌, ◌==◌, ◌&&◌, nat_lt, List, [], slice_index, All, Contains, count_by}
use Rattle.dispatcher.specs.declared.dispatcher.claiming.Claim.{Claim}
use Rattle.dispatcher.specs.declared.dispatcher.claiming.Claim.TheVariants.{Task, NoMore}
use Rattle.dispatcher.specs.declared.seat.Seat.{Seat}
use Rattle.dispatcher.specs.declared.dispatcher.Dispatcher.{Dispatcher}

-- a dispatcher's number of tasks
abbrev pub tasks_of : {A : Type 0} → Dispatcher A → ℕ
tasks_of d = d.tasks

-- a dispatcher's number of seats
abbrev pub seats_of : {A : Type 0} → Dispatcher A → ℕ
seats_of d = d.seats

-- the seat's number
abbrev pub number : Seat → ℕ
number s = slice_index s.inner.me.0.numbers 0

-- a seat's claims, the earliest first
abbrev pub claims : Seat → List ℕ
claims s = s.inner.me.0.claims

-- the tasks that a seat marked, the earliest first
abbrev pub marked_tasks : Seat → List ℕ
marked_tasks s = s.inner.me.0.marked

-- the tasks that a seat marked, or saw marked, the earliest first
abbrev pub seen_tasks : Seat → List ℕ
seen_tasks s = s.inner.me.0.seen

-- the seat is one of this dispatcher's: it has the identity of its table, which no other dispatcher has
abbrev pub IsSeatOf : {A : Type 0} → Dispatcher A → Seat → Type 0
IsSeatOf d s = s.inner.table_id ≡ d.table.shared.table_id

-- the same seat of the same dispatcher, perhaps at another time
abbrev pub IsSameSeat : Seat → Seat → Type 0
IsSameSeat s t = (t.inner.table_id ≡ s.inner.table_id) × (number t ≡ number s)

-- the seat has done nothing yet
abbrev pub IsUnused : Seat → Type 0
IsUnused s = (claims s ≡ []) × (marked_tasks s ≡ []) × (seen_tasks s ≡ [])

-- each claim of the seat so far gave a task
abbrev pub MayClaim : ℕ → Seat → Type 0
MayClaim tasks s = All (λ c. c < 2 * tasks) (claims s)

-- some claim of the seat gave it the task
abbrev pub WasGiven : ℕ → Seat → ℕ → Type 0
WasGiven tasks s task = (c : ℕ) × Contains (claims s) c × ((c < 2 * tasks) × (c % tasks ≡ task))

-- the number that was claimed
abbrev pub claim_of : Claim → ℕ
claim_of (Task c task) = c
claim_of (NoMore c) = c

-- a claim below twice the tasks gives a task, so that each is given twice, and every other claim gives none
abbrev pub FitsClaim : ℕ → Claim → Type 0
FitsClaim tasks (Task c task) = (c < 2 * tasks) × (task ≡ c % tasks)
FitsClaim tasks (NoMore c) = 2 * tasks ≤ c

-- how many of the claims give the task
abbrev pub times_given : ℕ → ℕ → List ℕ → ℕ
times_given tasks task claims = count_by (λ c. nat_lt c (2 * tasks) && (c % tasks == task)) claims
