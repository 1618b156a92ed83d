use Rattle.std.proofs.Common.{◌≡◌, ◌++◌, ◌∙◌, IsPermutation, ap, arith, drop, length, rules, subst, take}
use Rattle.std.proofs.lemmas.List.Sorted.{IsNonDecreasingBy-from_sort_by_key, IsPermutation-trans, length_permutation}
use Rattle.std.proofs.Math.Seq.{take-append_seam}
use Rattle.bars.specs.declared.tick.Tick.{Tick}
use Rattle.bars.proofs.tick.put_ticks_in_order.Goals as goal

pub returns-clause-permutation : goal.returns-clause-permutation
returns-clause-permutation c =
    let ticks = c.args.ticks.now.items in
    let lent = c.as_mut_slice.result.now in
    let moved = c.put_by_keys.new.ticks in
    let sorted = c.sort_unstable_by_key.new.self.items in
    let rest = drop (length moved) ticks in
    let all : take c.args.ticks.now.len (moved ++ rest) ≡ moved =
    ap (λ n. take n (moved ++ rest)) {y = length moved} (omega (arith, c.as_mut_slice.ensures.len, length_permutation lent moved c.put_by_keys.ensures))
    ∙ take-append_seam moved rest in
    IsPermutation-trans ticks moved sorted (subst (λ l. IsPermutation l moved) c.as_mut_slice.ensures.value c.put_by_keys.ensures)
    (subst (λ l. IsPermutation l sorted) all c.sort_unstable_by_key.ensures.permutation)

pub returns-clause-locates : goal.returns-clause-locates
returns-clause-locates c =
    IsNonDecreasingBy-from_sort_by_key (λ (t : Tick). t.locate) c.sort_unstable_by_key.new.self.items c.sort_unstable_by_key.ensures.sorted
    (λ a r f' k. search rules)
