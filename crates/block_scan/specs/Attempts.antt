-- The tasks of a source that is read at places: its blocks, and what came of them.
-- To be believed of a crate used by itself: a promise of the program speaks of the whole source alone.
use Rattle.std.specs.Prelude.{◌≡◌, ℕ, ◌+◌, ◌*◌, ◌<◌, ◌≤◌, ◌==◌, ◌&&◌, Bool, true, nat_eq, min, if◌then◌else◌, List, [], ◌∷◌, All, map, length, Option, None, Result, IfOk}
use Rattle.std.specs.Cmp.{IsEquivalence}
use Rattle.std.specs.Option.{option_eq, option_or}
use Rattle.std.specs.Result.{result_err}
use Rattle.std.proofs.Common.{arith, sym, subst}
use Rattle.std.proofs.lemmas.Bool.Decides.{nat_tests}
use Rattle.base.proofs.Exact.{IsExact, exact_equiv, exact_list, exact_nat, exact_option}
use Rattle.base.specs.Least.{numbers_below}
use Rattle.gathering.specs.Adding.{same_inputs}
use Rattle.day_file.specs.declared.source_fault.SourceFault.{SourceFault}
use Rattle.block_scan.specs.declared.scanned_block.ScannedBlock.{ScannedBlock}
use Rattle.block_scan.specs.declared.scanned_block.Tail.TheVariants.{More}
use Rattle.block_scan.specs.declared.request.Request.{Request}
use Rattle.block_scan.specs.declared.guessing.TheConstants.{LOOKED_AT}
use Rattle.block_scan.specs.Pieces.{Asked, IsAskable}

-- S is sources
module _ (S : Type 0) where
  -- a block: where it begins and ends, of which source, and what is asked of it
  pub record BlockView : Type 0 where
    pub asked : Asked S
    pub from : ℕ
    pub to : ℕ

  -- what came of a block of this source: a piece, or why there is none
  pub record AttemptView : Type 0 where
    pub asked : Asked S
    pub found : Result ScannedBlock SourceFault

-- both requests ask the same
abbrev pub is_same_request : Request → Request → Bool
is_same_request a b =
    (a.limit == b.limit) && option_eq nat_eq a.as_of b.as_of && (a.parts == b.parts) && (a.block == b.block)

module _ {S : Type 0} where
  -- both blocks are of equal sources, between the same places, and the same is asked of them
  abbrev pub is_same_block : (S → S → Bool) → BlockView S → BlockView S → Bool
  is_same_block eq a b =
      eq a.asked.source b.asked.source && is_same_request a.asked.request b.asked.request
      && (a.from == b.from) && (a.to == b.to)

  -- the block of this number, of `count` blocks: the last one reaches to the source's end
  abbrev pub block_at : S → Request → ℕ → ℕ → BlockView S
  block_at source request count number = record {
    asked = record { source = source; request = request };
    from = min request.limit (number * request.block);
    to = if number + 1 == count then request.limit + 1 else (number + 1) * request.block;
  }

  -- all blocks, in order
  abbrev pub blocks_of : S → Request → ℕ → List (BlockView S)
  blocks_of source request count = map (block_at source request count) (numbers_below count)

  -- these may come of the blocks, one of each, in order
  abbrev pub AreOf : List (BlockView S) → List (AttemptView S) → Type 0
  AreOf blocks attempts = map (λ attempt. attempt.asked) attempts ≡ map (λ block. block.asked) blocks

  -- what came of a block: of its source and request; a piece begins at the block's start or a little behind it, and
  -- ends at or behind its end, or where the source does
  pub record IsAttemptAt (block : BlockView S) (attempt : AttemptView S) : Type 0 where
    pub asked : attempt.asked ≡ block.asked
    pub from : IfOk attempt.found (λ piece. block.from ≤ piece.start)
    pub near : IfOk attempt.found (λ piece. piece.start ≤ block.from + LOOKED_AT)
    pub to : IfOk attempt.found (λ piece. piece.tail ≡ More → block.to ≤ piece.end)

  -- there is at least one block, and all are of one source with one request, which may be made
  pub record AreBlocks (blocks : List (BlockView S)) : Type 0 where
    pub asked : Asked S
    pub asks : IsAskable asked.request
    pub some : 0 < length blocks
    pub each : All (λ block. block.asked ≡ asked) blocks

  -- the fault of the first attempt that has no piece
  abbrev pub first_fault_of : List (AttemptView S) → Option SourceFault
  first_fault_of [] = None
  first_fault_of (attempt ∷ attempts) = option_or (result_err attempt.found) (first_fault_of attempts)

  -- there is at least one attempt, and all are at blocks of this source for this request
  pub record AreAttemptsOf (asked : Asked S) (attempts : List (AttemptView S)) : Type 0 where
    pub some : 0 < length attempts
    pub each : All (λ attempt. attempt.asked ≡ asked) attempts

-- ---- blocks that compare as equal are one

exact_request : IsExact is_same_request
exact_request = record {
  itself = λ a. grind (arith, nat_tests, (exact_option exact_nat).itself);
  one = λ a b h. grind (arith, nat_tests, (exact_option exact_nat).one);
}

module _ {S : Type 0} {eq : S → S → Bool} (laws : IsEquivalence eq) (one : (a b : S) → eq a b ≡ true → a ≡ b) where
  exact_block : IsExact (is_same_block eq)
  exact_block = record {
    itself = λ a. grind (arith, nat_tests, laws.refl, exact_request.itself);
    one = λ a b h.
        let source = one a.asked.source b.asked.source in
        let request = exact_request.one a.asked.request b.asked.request in
        grind (arith, nat_tests);
  }

  pub block_equiv : IsEquivalence (is_same_block eq)
  block_equiv = exact_equiv exact_block

  pub equal_blocks : (a b : BlockView S) (attempt : AttemptView S) → is_same_block eq a b ≡ true
      → IsAttemptAt a attempt → IsAttemptAt b attempt
  equal_blocks a b attempt same gives = subst (λ block. IsAttemptAt block attempt) (exact_block.one a b same) gives

  pub equal_attempts : (xs ys : List (BlockView S)) → same_inputs (is_same_block eq) xs ys ≡ true
      → (attempts : List (AttemptView S)) → AreOf ys attempts → AreOf xs attempts
  equal_attempts xs ys same attempts are =
      subst (λ blocks. AreOf blocks attempts) (sym ((exact_list exact_block).one xs ys same)) are
