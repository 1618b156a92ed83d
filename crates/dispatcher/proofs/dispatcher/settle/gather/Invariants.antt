use Rattle.std.proofs.Common.{◌≡◌, ◌+◌, ℕ, [], All, length, sum_by, vec_len}
use Rattle.dispatcher.specs.declared.rule.View.{View}
use Rattle.dispatcher.specs.Rule.{joined_view}
use Rattle.dispatcher.proofs.dispatcher.settle.gather.Given as goal

-- of whatever adds up when views are joined, the one seat and those that are left have what all had
abbrev pub invariant-loop-seat : goal.invariant-loop-seat
invariant-loop-seat g l = record {
  own : l.all.table_id ≡ l.shared.table_id;
  no_slot : l.all.me.1 ≡ [];
  others : All (λ s. s.inner.table_id ≡ l.shared.table_id) l.seats.items;
  numbers : length l.all.me.0.numbers + length l.seats.items ≡ length l.fn.seats.items;
  sums : (amount : View → ℕ) → ((one two : View) → amount (joined_view one two) ≡ amount one + amount two)
      → amount l.all.me.0 + sum_by (λ s. amount s.inner.me.0) l.seats.items ≡ sum_by (λ s. amount s.inner.me.0) l.fn.seats.items;
}

abbrev pub decreases-loop-seat : goal.decreases-loop-seat
decreases-loop-seat g l = vec_len l.seats
