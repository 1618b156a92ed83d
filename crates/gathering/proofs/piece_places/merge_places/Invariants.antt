use Rattle.std.proofs.Common.{◌≡◌, ℕ, ◌<◌, ◌≤◌, nat_lt, if◌then◌else◌, length, get_or, None}
use Rattle.std.specs.Option.{option_or}
use Rattle.gathering.proofs.piece_places.merge_places.Given as goal

-- the places below the length of the others are as they were, and those from there on are merged
abbrev pub invariant-loop-other : goal.invariant-loop-other
invariant-loop-other g l = record {
  count : length l.own.items ≡ length l.fn.own.items;
  left : length l.others.items ≤ length l.own.items;
  others : (k : ℕ) → k < length l.others.items → get_or l.others.items k None ≡ get_or l.fn.others.items k None;
  as_before : (k : ℕ) → k < length l.others.items → get_or l.own.items k None ≡ get_or l.fn.own.items k None;
  merged : (k : ℕ) → length l.others.items ≤ k → get_or l.own.items k None
      ≡ (if nat_lt k l.from then None else option_or (get_or l.fn.own.items k None) (get_or l.fn.others.items k None));
}

abbrev pub decreases-loop-other : goal.decreases-loop-other
decreases-loop-other g l = length l.others.items
