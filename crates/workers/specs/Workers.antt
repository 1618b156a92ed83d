-- What a worker's run leaves at its seat and at its port.
-- To be believed of a crate used by itself.
use Rattle.std.specs.Prelude.{◌≡◌, ℕ, ◌*◌, ◌%◌, ◌<◌, ◌≤◌, Bool, not, List, [], ◌∷◌, ◌++◌, Some, All, count_by, filter, map, slice_get}
use Rattle.dispatcher.specs.Seats.{claims, seen_tasks}
use Rattle.dispatcher.specs.declared.seat.Seat.{Seat}
use Rattle.gathering.specs.Views.{PieceView}

-- a claim, and whether its task was marked then, or seen marked
pub record Turn : Type 0 where
  pub claim : ℕ
  pub is_marked : Bool

-- the tasks of those turns that have a mark, in order
abbrev pub tasks_marked : ℕ → List Turn → List ℕ
tasks_marked tasks turns = map (λ t. t.claim % tasks) (filter (λ t. t.is_marked) turns)

-- the seat's last claim found no task, and each claim before it is a turn, and gave one; the tasks that were marked or
-- seen marked since `before` are those of the turns that have a mark, in order; and `count` turns have none
pub record IsDone (tasks count : ℕ) (before after : Seat) : Type 0 where
  pub turns : List Turn
  pub last : ℕ
  pub claimed : claims after ≡ map (λ t. t.claim) turns ++ last ∷ []
  pub gave : All (λ c. c < 2 * tasks) (map (λ t. t.claim) turns)
  pub found_none : 2 * tasks ≤ last
  pub seen : seen_tasks after ≡ seen_tasks before ++ tasks_marked tasks turns
  pub left : count_by (λ t. not t.is_marked) turns ≡ count

module _ {A : Type 0} (inputs : List A) (before after : List (PieceView A)) where
  -- the pieces that a port took have these numbers, in order, each over the input of its number
  pub record TookPieces (numbers : List ℕ) : Type 0 where
    pub pieces : List (PieceView A)
    pub taken : after ≡ before ++ pieces
    pub in_order : map (λ p. p.number) pieces ≡ numbers
    pub own : All (λ p. slice_get inputs p.number ≡ Some p.input) pieces
