-- A source gives one piece more.
use Rattle.std.proofs.Common.{◌≡◌, ℕ, ◌+◌, ◌≤◌, List, ◌++◌, length, ◌∙◌, arith}
use Rattle.std.proofs.lemmas.List.{length-append}
use Rattle.sources.specs.declared.source.Source.{Ghosts as SourceOf}
use Rattle.sources.specs.Given.{GaveMore, GaveSome}

module _ {S : Type 0} (stream : SourceOf S)
    (gave_more : (a b c : S) (xs ys : List ℕ) → stream.Gave a b xs → stream.Gave b c ys → stream.Gave a c (xs ++ ys))
    {before was now : S} {bytes piece : List ℕ} (so_far : stream.Gave before was bytes) (gave : stream.Gave was now piece) where
  pub some_given : {limit : ℕ} → length bytes + length piece ≤ limit + 1 → GaveSome stream limit before now
  some_given within =
      record { bytes = bytes ++ piece; gave = gave_more _ _ _ _ _ so_far gave; within = omega (arith, length-append bytes piece, within) }

  pub more_given : {limit : ℕ} → length bytes + length piece ≡ limit + 1 → GaveMore stream limit before now
  more_given more = record { bytes = bytes ++ piece; gave = gave_more _ _ _ _ _ so_far gave; more = length-append bytes piece ∙ more }
