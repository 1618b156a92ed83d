-- What is read of a file whose bytes are known.
use Rattle.std.proofs.Common.{◌≡◌, ℕ, ◌<◌, List, [], ◌∷◌, length, drop, Option, Some, arith, ap, sym, subst, ◌∙◌}
use Rattle.std.proofs.lemmas.List.{length-drop, length-take, take_all}
use Rattle.block_scan.specs.Blocks.{KnownAt, KnownEnd}

module _ (held : Option (List ℕ)) (all : List ℕ) (known : held ≡ Some all) where
  -- what is there from the start on, and nothing behind it, is all
  pub known_whole : (day : List ℕ) → KnownAt held 0 day → KnownEnd held (length day) → day ≡ all
  known_whole day at ends =
      sym (subst (λ h. KnownAt h 0 day) known at) ∙ take_all (length day) all (subst (λ h. KnownEnd h (length day)) known ends)

  -- where a byte is, the bytes don't end before
  pub known_byte : (place byte : ℕ) → KnownAt held place (byte ∷ []) → place < length all
  known_byte place byte at =
      omega (
        arith,
        ap length (subst (λ h. KnownAt h place (byte ∷ [])) known at),
        length-take 1 (drop place all),
        length-drop place all,
      )
