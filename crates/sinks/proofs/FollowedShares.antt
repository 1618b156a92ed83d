-- Shares of parts that follow each other: how far they go, and one more.
use Rattle.std.proofs.Common.{◌≡◌, ℕ, ◌+◌, ◌<◌, ◌≤◌, List, [], ◌∷◌, ◌++◌, arith}
use Rattle.sinks.specs.Followed.{Follow}
use Rattle.sinks.specs.declared.shares.Begun.{Begun}

module _ {P : Type 0} (parts : P) where
  pub follow_reach : (done : ℕ) (threads : List (Begun P)) (next : ℕ) → Follow parts done threads next → done ≤ next
  follow_reach done [] next is = omega (arith, is)
  follow_reach done (begun ∷ threads) next (same, first, some, more) = omega (arith, follow_reach (done + begun.count) threads next more)

  pub follow_push : (done : ℕ) (threads : List (Begun P)) (next : ℕ) (begun : Begun P) → Follow parts done threads next
      → begun.thread.promise.parts.now ≡ parts → begun.thread.promise.first ≡ next → 0 < begun.count
      → Follow parts done (threads ++ begun ∷ []) (next + begun.count)
  follow_push done [] next begun is same first some = (same, omega (arith, first, is), some, omega (arith, is))
  follow_push done (one ∷ threads) next begun (one_same, one_first, one_some, more) same first some =
      (one_same, one_first, one_some, follow_push (done + one.count) threads next begun more same first some)
