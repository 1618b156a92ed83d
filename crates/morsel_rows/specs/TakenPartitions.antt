-- Partitions of which some have taken no memory yet.
-- Derived: callers see a list of partitions.
use Rattle.std.specs.Prelude.{◌≡◌, ℕ, List, Option, None, Some, Box, map, slice_index_or}
use Rattle.base.specs.Least.{numbers_below}
use Rattle.morsel_rows.specs.Partitions.{PartitionView, no_rows_in}

module _ {Z : Type 0} where
  -- the rows of a partition, if it has taken memory; otherwise none
  abbrev pub rows_of_taken : Option (Box PartitionView Z) → PartitionView
  rows_of_taken None = no_rows_in
  rows_of_taken (Some taken) = taken.value

  -- the rows of the partition of this number
  abbrev pub rows_taken_at : List (Option (Box PartitionView Z)) → ℕ → PartitionView
  rows_taken_at taken number = rows_of_taken (slice_index_or taken number None)

  -- the partition of this number has taken memory
  abbrev pub HasTaken : List (Option (Box PartitionView Z)) → ℕ → Type 0
  HasTaken taken number = (one : Box PartitionView Z) × (slice_index_or taken number None ≡ Some one)

  -- the rows of n partitions, of which some have taken memory
  abbrev pub partitions_seen : ℕ → List (Option (Box PartitionView Z)) → List PartitionView
  partitions_seen n taken = map (rows_taken_at taken) (numbers_below n)
