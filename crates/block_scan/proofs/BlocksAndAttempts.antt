-- All blocks of a source are of it, and so is what comes of them.
use Rattle.std.proofs.Common.{◌≡◌, ℕ, zero, suc, ◌<◌, Option, Some, None, Result, Ok, Err, IsOk, true≢false, List, [], ◌∷◌, ◌++◌, All, length, map, get_or}
use Rattle.std.proofs.Common.{refl, sym, ap, ap₂, ◌∙◌, arith}
use Rattle.std.specs.Arc.{arc_value}
use Rattle.std.specs.declared.sync.Arc.{Arc}
use Rattle.std.specs.List.{AllWithin}
use Rattle.std.specs.Option.{option_or}
use Rattle.std.specs.Result.{result_err}
use Rattle.std.proofs.lemmas.List.{get_or-map, length-map, map_push}
use Rattle.std.proofs.lemmas.List.FromFn.{length-map-range_with_len}
use Rattle.std.proofs.lemmas.List.Elements.{All-map}
use Rattle.base.specs.Least.{numbers_below}
use Rattle.block_scan.specs.Attempts.{AreAttemptsOf, AreBlocks, AreOf, AttemptView, BlockView, block_at, blocks_of, first_fault_of}
use Rattle.block_scan.specs.Pieces.{Asked, IsAskable}
use Rattle.day_file.specs.declared.source_fault.SourceFault.{SourceFault}
use Rattle.block_scan.specs.declared.scanned_block.ScannedBlock.{ScannedBlock}
use Rattle.block_scan.specs.declared.request.Request.{Request}

passed : (found : Result ScannedBlock SourceFault) (other : Option SourceFault) → IsOk found → option_or (result_err found) other ≡ other
passed (Ok piece) other is = refl
passed (Err fault) other is = absurd (true≢false (sym is))

module _ {S : Type 0} where
  -- there are some, and all are of the source
  abbrev pub blocks_are : (source : S) (request : Request) (count : ℕ) → IsAskable request → 0 < count → AreBlocks (blocks_of source request count)
  blocks_are source request count asks some =
      let asked : Asked S = record { source = source; request = request } in record {
        asked = asked;
        asks = asks;
        some = omega (arith, some, length-map-range_with_len (block_at source request count) 0 count);
        each = All-map (λ (block : BlockView S). block.asked ≡ asked) (block_at source request count) (numbers_below count) (λ k number here. refl);
      }

  -- one more block, and what comes of it
  pub are_more : (blocks : List (BlockView S)) (attempts : List (AttemptView S)) (block : BlockView S) (attempt : AttemptView S) → AreOf blocks attempts
      → attempt.asked ≡ block.asked → AreOf (blocks ++ block ∷ []) (attempts ++ attempt ∷ [])
  are_more blocks attempts block attempt are gives = rw (map_push, map_push) (ap₂ (λ l a. l ++ a ∷ []) are gives)

  -- what comes of some blocks of one source is of it
  pub attempts_of : (blocks : List (BlockView S)) (attempts : List (AttemptView S)) (are : AreBlocks blocks) → AreOf blocks attempts
      → AreAttemptsOf are.asked attempts
  attempts_of blocks attempts are of =
      let as_many : length attempts ≡ length blocks = sym (length-map attempts _) ∙ ap length of ∙ length-map blocks _ in record {
        some = omega (arith, are.some);
        each = λ k d less. sym (get_or-map (λ (a : AttemptView S). a.asked) attempts k d d.asked less) ∙ ap (λ l. get_or l k d.asked) of
            ∙ All-map (λ asked. asked ≡ are.asked) (λ (b : BlockView S). b.asked) blocks are.each k d.asked
            (omega (arith, length-map blocks (λ (b : BlockView S). b.asked)));
      }

  -- ---- the first fault

  pub first_found : (attempts : List (AttemptView S)) (k : ℕ) (v : AttemptView S) (fault : SourceFault)
      → AllWithin (λ a. IsOk a.found) attempts 0 k → k < length attempts → get_or attempts k v ≡ v → v.found ≡ Err fault
      → first_fault_of attempts ≡ Some fault
  first_found [] k v fault ok below here is = absurd (omega (arith, below))
  first_found (a ∷ attempts) zero v fault ok below here is =
      ap (λ (found : Result ScannedBlock SourceFault). option_or (result_err found) (first_fault_of attempts)) (ap (λ (x : AttemptView S). x.found) here ∙ is)
  first_found (a ∷ attempts) (suc k) v fault ok below here is =
      passed a.found (first_fault_of attempts) (ok 0 a (omega arith) (omega arith))
      ∙ first_found attempts k v fault (λ n d low less. ok (suc n) d (omega arith) (omega (arith, less))) (omega (arith, below)) here is

  pub none_found : (attempts : List (AttemptView S)) → All (λ a. IsOk a.found) attempts → first_fault_of attempts ≡ None
  none_found [] ok = refl
  none_found (a ∷ attempts) ok =
      passed a.found (first_fault_of attempts) (ok 0 a (omega arith))
      ∙ none_found attempts (λ n d less. ok (suc n) d (omega (arith, less)))

-- where an item of a loop over shared things stands
pub at_item : {X Z : Type 0} {items : List X} {arcs lent : List (Arc X Z)} {i : ℕ} {arc : Arc X Z} → lent ≡ arcs → map arc_value arcs ≡ items
    → i < length lent → arc ≡ get_or lent i arc → (i < length items) × ((d : X) → get_or items i d ≡ arc_value arc)
at_item {arcs = arcs} {i = i} {arc = arc} same view less is = (
  omega (arith, less, ap length same, ap length view, length-map arcs arc_value),
  λ d. rw (← view, ← same) (get_or-map arc_value _ i arc d less ∙ ap arc_value (sym is)),
)

-- what a list of shared attempts is of, its first attempt is of
pub first_of : {S Z : Type 0} {asked first : Asked S} (arcs : List (Arc (AttemptView S) Z)) {arc : Arc (AttemptView S) Z} → arc ≡ get_or arcs 0 arc
    → first ≡ (arc_value arc).asked → AreAttemptsOf asked (map arc_value arcs) → first ≡ asked
first_of {asked = asked} arcs {arc} is same are =
    let less : 0 < length arcs = omega (arith, are.some, length-map arcs arc_value) in
    same ∙ sym (ap (λ (v : AttemptView _). v.asked) ((at_item refl refl less is).1 (arc_value arc))) ∙ are.each 0 (arc_value arc) are.some
