use Rattle.std.proofs.Common.{◌≡◌, ℕ, ◌+◌, ◌≤◌, List, ◌++◌, length, take, append_assoc, length-take, arith}
use Rattle.std.proofs.Math.Seq.{take-append-add}
use Rattle.std.proofs.lemmas.List.{take_all, take_at, take-take, take-append-le}
use Rattle.sources.proofs.day_reading.read_piece.Goals as goal

-- of a vector that was made longer, and into whose end `into` was written, the first bytes
piece_stands : (old set grown zeros into post tail new : List ℕ) (start taken most total : ℕ) → set ≡ grown → grown ≡ take (start + most) old ++ zeros
    → start ≡ length old → taken ≤ length into → start + taken ≤ total → new ≡ take (start + taken) (take total ((take start set ++ (into ++ post)) ++ tail))
    → new ≡ old ++ take taken into
piece_stands old set grown zeros into post tail new start taken most total read made begin within fits stands =
    grind (arith, take_all, take_at, take-take, append_assoc, take-append-add, take-append-le)

pub returns-clause-piece : goal.returns-clause-piece
returns-clause-piece g c =
    let taken = c.in_ok-taken.taken in
    let into = c.take.new.into in
    let count = c.in_ok-taken.ensures.count in (
      take taken into,
      c.in_ok-taken.ensures.gave,
      piece_stands c.args.bytes.now.items c.deref_mut.result.now _ _ into _ _ _ c.len-start.result taken _ _ c.deref_mut.ensures.value
          c.in_ok-resize.ensures.items (omega (arith, c.args.bytes.now.ok.0)) count
          (omega (arith, c.take.auto.into, c.in_ok-resize.ensures.len, count, c.deref_mut.ensures.len)) c.truncate.ensures.items,
      omega (arith, length-take taken into, count),
    )
