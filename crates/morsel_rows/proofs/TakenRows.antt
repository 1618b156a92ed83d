-- Partitions that have taken memory, and those that haven't, as callers see them.
use Rattle.std.proofs.Common.{◌≡◌, ℕ, zero, suc, ◌<◌, ◌≤◌, ◌%◌, List, [], ◌∷◌, ◌++◌, length, map, Option, None, Some, Box, slice_get, slice_index_or, slice_set}
use Rattle.std.proofs.Common.{OnErr, OnOk, Result, true, is_some, refl, subst, sym, ap, ◌∙◌, arith}
use Rattle.std.specs.Box.{with_value}
use Rattle.std.proofs.lemmas.List.{get_or_default, get_or-set_same, get_or-set_other}
use Rattle.std.proofs.lemmas.List.FromFn.{get_or-map-range_with_len, length-map-range_with_len}
use Rattle.std.proofs.lemmas.Option.{slice_get-get_or}
use Rattle.std.proofs.lemmas.Nat.{mod_below}
use Rattle.std.proofs.lemmas.Result.{on_err_weaker, on_ok_weaker}
use Rattle.base.specs.Least.{numbers_below}
use Rattle.row_types.specs.declared.directory.DirectoryRow.{DirectoryRow}
use Rattle.day_rows.specs.DayRows.{DayRows, no_rows}
use Rattle.morsel_rows.specs.MoreRows.{BecomesJoined}
use Rattle.morsel_rows.specs.Partitions.{MorselRowsView, PartitionView, no_rows_in, partition_of}
use Rattle.morsel_rows.specs.TakenPartitions.{HasTaken, partitions_seen, rows_of_taken, rows_taken_at}
use Rattle.morsel_rows.proofs.JoinedInPartitions.{Joins, same_from_number, set_one}

module _ {Z : Type 0} where
  -- a place more, without a partition
  pub none_more : (taken : List (Option (Box PartitionView Z))) (number : ℕ) → rows_taken_at (taken ++ None ∷ []) number ≡ rows_taken_at taken number
  none_more [] zero = refl
  none_more [] (suc number) = refl
  none_more (one ∷ taken) zero = refl
  none_more (one ∷ taken) (suc number) = none_more taken number

  -- a partition more, without rows
  pub room_more : (taken : List (Option (Box PartitionView Z))) (one : Box PartitionView Z) → ((number : ℕ) → rows_taken_at taken number ≡ no_rows_in)
      → one.value ≡ no_rows_in → (number : ℕ) → rows_taken_at (taken ++ Some one ∷ []) number ≡ no_rows_in
  room_more [] one all is zero = is
  room_more [] one all is (suc number) = refl
  room_more (first ∷ taken) one all is zero = all zero
  room_more (first ∷ taken) one all is (suc number) = room_more taken one (λ k. all (suc k)) is number

  -- where each number has no rows, the partitions of no rows are seen
  pub none_seen : (n : ℕ) (taken : List (Option (Box PartitionView Z))) → ((number : ℕ) → rows_taken_at taken number ≡ no_rows_in)
      → partitions_seen n taken ≡ map (partition_of n no_rows) (numbers_below n)
  none_seen n taken all = same_from_number (rows_taken_at taken) (partition_of n no_rows) 0 n (λ number low. all number)

  -- past the last place there are no rows
  pub none_past : (taken : List (Option (Box PartitionView Z))) (number : ℕ) → length taken ≤ number → rows_taken_at taken number ≡ no_rows_in
  none_past [] number past = refl
  none_past (one ∷ taken) zero past = absurd (omega arith)
  none_past (one ∷ taken) (suc number) past = none_past taken number (omega arith)

  -- what stands at a place is its partition
  pub taken_is : (taken : List (Option (Box PartitionView Z))) (number : ℕ) (here : Option (Box PartitionView Z)) → number < length taken
      → here ≡ slice_index_or taken number here → rows_taken_at taken number ≡ rows_of_taken here
  taken_is taken number here within is = ap rows_of_taken (get_or_default taken number None here within ∙ sym is)

  -- what stands at a place, if its partition has taken memory
  pub has_taken : (taken : List (Option (Box PartitionView Z))) (number : ℕ) (here : Option (Box PartitionView Z)) → number < length taken
      → here ≡ slice_index_or taken number here → is_some here ≡ true → HasTaken taken number
  has_taken taken number None within is h = absurd (cc)
  has_taken taken number (Some one) within is h = (one, get_or_default taken number None (Some one) within ∙ sym is)

  pub taken_within : (taken : List (Option (Box PartitionView Z))) (number : ℕ) → HasTaken taken number → number < length taken
  taken_within [] number has = let some = has.1 in absurd (cc)
  taken_within (one ∷ taken) zero has = omega arith
  taken_within (one ∷ taken) (suc number) has = let below = taken_within taken number has in omega (arith, below)

  -- what stands at a place may be put there again
  pub set_same : (taken : List (Option (Box PartitionView Z))) (number : ℕ) (here : Option (Box PartitionView Z))
      → here ≡ slice_index_or taken number here → slice_set taken number here ≡ taken
  set_same [] number here is = refl
  set_same (one ∷ taken) zero here is = ap (λ it. it ∷ taken) is
  set_same (one ∷ taken) (suc number) here is = ap (λ rest. one ∷ rest) (set_same taken number here is)

  -- where the same rows are put in the place of some, all are the same
  pub put_same : (taken : List (Option (Box PartitionView Z))) (at : ℕ) (here next : Option (Box PartitionView Z)) → here ≡ slice_index_or taken at here
      → rows_of_taken next ≡ rows_of_taken here → (number : ℕ) → rows_taken_at (slice_set taken at next) number ≡ rows_taken_at taken number
  put_same [] at here next is same number = refl
  put_same (one ∷ taken) zero here next is same zero = same ∙ ap rows_of_taken is
  put_same (one ∷ taken) zero here next is same (suc number) = refl
  put_same (one ∷ taken) (suc at) here next is same zero = refl
  put_same (one ∷ taken) (suc at) here next is same (suc number) = put_same taken at here next is same number

module _ {Z : Type 0} (n : ℕ) where
  -- there are as many as there are to be
  pub length_seen : (taken : List (Option (Box PartitionView Z))) → length (partitions_seen n taken) ≡ n
  length_seen taken = length-map-range_with_len (rows_taken_at taken) 0 n

  -- the one of this number
  pub at_seen : (taken : List (Option (Box PartitionView Z))) (number : ℕ) (d : PartitionView) → number < n
      → slice_index_or (partitions_seen n taken) number d ≡ rows_taken_at taken number
  at_seen taken number d below = get_or-map-range_with_len (rows_taken_at taken) 0 n number number d below (omega arith)

  pub get_seen : (taken : List (Option (Box PartitionView Z))) (number : ℕ) → number < n
      → slice_get (partitions_seen n taken) number ≡ Some (rows_taken_at taken number)
  get_seen taken number below =
      slice_get-get_or (partitions_seen n taken) number no_rows_in (rw (length_seen taken) below) ∙ ap Some (at_seen taken number no_rows_in below)

  -- where each number has the same rows, the same are seen
  pub seen_same : (one other : List (Option (Box PartitionView Z)))
      → ((number : ℕ) → rows_taken_at one number ≡ rows_taken_at other number) → partitions_seen n one ≡ partitions_seen n other
  seen_same one other same = same_from_number (rows_taken_at one) (rows_taken_at other) 0 n (λ number low. same number)

  -- one partition more or another one is seen at its number
  pub seen_set : (taken : List (Option (Box PartitionView Z))) (number : ℕ) (one : Option (Box PartitionView Z)) → number < n → number < length taken
      → partitions_seen n (slice_set taken number one) ≡ slice_set (partitions_seen n taken) number (rows_of_taken one)
  seen_set taken number one below within =
      let f = rows_taken_at taken in
      let g = rows_taken_at (slice_set taken number one) in
      let at : g number ≡ rows_of_taken one = ap rows_of_taken (get_or-set_same taken number one None within) in
      sym (set_one f g 0 n number number below (omega arith) (λ b other. sym (ap rows_of_taken (get_or-set_other taken number b one None other))))
      ∙ ap (slice_set (partitions_seen n taken) number) at

-- where a partition changes by one row more at its number, the changed rows are those of all messages
module _ {Z : Type 0} (key : ℕ) (more : DayRows) (change : PartitionView → PartitionView) (joins : Joins key more change) where
  pub taken_joins : (n : ℕ) (taken : List (Option (Box PartitionView Z))) (breaks : List ℕ) (directory : List DirectoryRow) (number : ℕ) (next : PartitionView)
      → 0 < n → number ≡ key % n → next ≡ change (rows_taken_at taken number)
      → BecomesJoined more (record { partitions = partitions_seen n taken; breaks = breaks; directory = directory })
      (record { partitions = slice_set (partitions_seen n taken) number next; breaks = breaks; directory = directory })
  taken_joins n taken breaks directory number next some number_is next_is =
      let below : number < n = rw number_is (mod_below key n some) in
      joins (partitions_seen n taken) breaks directory number (rows_taken_at taken number) next
      (number_is ∙ ap (λ k. key % k) (sym (length_seen n taken))) (sym (at_seen n taken number (rows_taken_at taken number) below)) next_is

  -- in the place of the partition that was there
  set_joins : (n : ℕ) (taken : List (Option (Box PartitionView Z))) (breaks : List ℕ) (directory : List DirectoryRow) (number : ℕ) (one : Box PartitionView Z)
      → 0 < n → number ≡ key % n → number < length taken → one.value ≡ change (rows_taken_at taken number)
      → BecomesJoined more (record { partitions = partitions_seen n taken; breaks = breaks; directory = directory })
      (record { partitions = partitions_seen n (slice_set taken number (Some one)); breaks = breaks; directory = directory })
  set_joins n taken breaks directory number one some number_is within one_is =
      let below : number < n = rw number_is (mod_below key n some) in
      subst (λ (l : List PartitionView). BecomesJoined more (record { partitions = partitions_seen n taken; breaks = breaks; directory = directory })
      (record { partitions = l; breaks = breaks; directory = directory })) (sym (seen_set n taken number (Some one) below within))
      (taken_joins n taken breaks directory number one.value some number_is one_is)

-- what a push into the partition at its place does
module _ {Z : Type 0} (n : ℕ) (before taken : List (Option (Box PartitionView Z))) (same : (k : ℕ) → rows_taken_at taken k ≡ rows_taken_at before k)
    (breaks : List ℕ) (directory : List DirectoryRow) (number : ℕ) (has : HasTaken taken number) (here : Option (Box PartitionView Z))
    (at : here ≡ slice_index_or taken number here) where
  abbrev seen : List (Option (Box PartitionView Z)) → MorselRowsView
  seen l = record { partitions = partitions_seen n l; breaks = breaks; directory = directory }

  same_seen : seen taken ≡ seen before
  same_seen = λ i. record { partitions = seen_same n taken before same i; breaks = breaks; directory = directory }

  stands : slice_index_or taken number None ≡ here
  stands = get_or_default taken number None here (taken_within taken number has) ∙ sym at

  pub not_none : here ≡ None → ⊥
  not_none is = let some = sym has.1 ∙ stands ∙ is in absurd (cc)

  -- if it is refused
  pub push_same : (part next : Box PartitionView Z) → here ≡ Some part → next ≡ part → seen (slice_set taken number (Some next)) ≡ seen before
  push_same part next is same_part =
      ap (λ it. seen (slice_set taken number it)) (ap Some same_part ∙ sym is) ∙ ap seen (set_same taken number here at) ∙ same_seen

  -- if a row is added
  pub push_joins : (key : ℕ) (more : DayRows) (change : PartitionView → PartitionView) → Joins key more change
      → 0 < n → number ≡ key % n → (part next : Box PartitionView Z) → here ≡ Some part → next.value ≡ change part.value
      → BecomesJoined more (seen before) (seen (slice_set taken number (Some next)))
  push_joins key more change joins some number_is part next is next_is =
      subst (λ (v : MorselRowsView). BecomesJoined more v (seen (slice_set taken number (Some next)))) same_seen
      (set_joins key more change joins n taken breaks directory number next some number_is (taken_within taken number has)
      (next_is ∙ ap change (sym (ap rows_of_taken (stands ∙ is)))))

  -- what a push does to all rows, if the row is added to the partition and if it is refused
  pub pushed : {E : Type 0} (old : MorselRowsView) → seen before ≡ old → (key : ℕ) (more : DayRows) (change : PartitionView → PartitionView)
      → Joins key more change → 0 < n → number ≡ key % n → (part : Box PartitionView Z) → here ≡ Some part → (lent next : PartitionView) → lent ≡ part.value
      → (r : Result (Unit {0}) E) → OnOk r (next ≡ change lent) → OnErr r (next ≡ lent)
      → OnOk r (BecomesJoined more old (seen (slice_set taken number (Some (with_value part next)))))
      × OnErr r (seen (slice_set taken number (Some (with_value part next))) ≡ old)
  pushed old old_is key more change joins some number_is part is lent next lent_is r added unchanged = (
    on_ok_weaker r (λ next_is. rw (← old_is) (push_joins key more change joins some number_is part (with_value part next) is (next_is ∙ ap change lent_is)))
        added,
    on_err_weaker r (λ same_part. push_same part (with_value part next) is (ap (with_value part) (same_part ∙ lent_is)) ∙ old_is) unchanged,
  )
