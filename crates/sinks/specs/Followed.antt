-- Shares of parts that follow each other.
-- Derived: no public clause cites it.
use Rattle.std.specs.Prelude.{◌≡◌, ℕ, ◌+◌, ◌<◌, List, [], ◌∷◌}
use Rattle.sinks.specs.declared.shares.Begun.{Begun}

-- the threads make texts of these parts, each of some, in order from the part `done` on up to the part `next`
abbrev pub Follow : {P : Type 0} → P → ℕ → List (Begun P) → ℕ → Type 0
Follow parts done [] next = done ≡ next
Follow parts done (begun ∷ threads) next =
    (begun.thread.promise.parts.now ≡ parts) × (begun.thread.promise.first ≡ done) × (0 < begun.count)
    × Follow parts (done + begun.count) threads next
