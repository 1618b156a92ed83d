use Rattle.std.proofs.Common.{◌≡◌, ℕ, ◌<◌, ◌≤◌, ◌+◌, ◌++◌, ◌∷◌, [], List, None, if◌then◌else◌, nat_lt, length, get_or, set, ap, ◌∙◌, arith, length-append}
use Rattle.std.proofs.lemmas.Grind.{common_steps}
use Rattle.std.proofs.lemmas.List.{get_or_read}
use Rattle.std.proofs.Math.ListN.{length-set}
use Rattle.std.specs.Option.{option_or}
use Rattle.gathering.proofs.piece_places.merge_places.Goals as goal

module _ {X : Type 0} (own others rest : List X) (x v d : X) where
  one_less : others ≡ rest ++ x ∷ [] → length others ≡ length rest + 1
  one_less popped = omega (arith, ap length popped, length-append rest (x ∷ []))

  left_same : others ≡ rest ++ x ∷ [] → (k : ℕ) → k < length rest → get_or rest k d ≡ get_or others k d
  left_same popped k h = grind (arith, common_steps)

  last : others ≡ rest ++ x ∷ [] → get_or others (length rest) d ≡ x
  last popped = grind (arith, common_steps)

  below : (at k : ℕ) → k < at → get_or (set own at v) k d ≡ get_or own k d
  below at k h = grind (arith, common_steps)

  -- values that are right behind a place are right from there on if it is set right
  from_there : (f : ℕ → X) (at k : ℕ) → at < length own → v ≡ f at → at ≤ k
      → (at + 1 ≤ k → get_or own k d ≡ f k) → get_or (set own at v) k d ≡ f k
  from_there f at k within here h behind = grind (arith, common_steps)

pub loop-other-preserved : goal.loop-other-preserved
loop-other-preserved g c = let was = c.loop-other.invariant in let own = c.loop-other.own.items in let others = c.loop-other.others.items in
    let rest = c.pop.new.self.items in let at = c.len-at.result in let v = c.merge_place.new.own in let x = c.in-Some.other in
    let popped : others ≡ rest ++ x ∷ [] = c.in-Some.ensures.items in let less = one_less own others rest x v None popped in
    let longer = length-set own at v in let at_is : at ≡ length rest = omega arith in
    record {
      count = longer ∙ was.count;
      left = omega arith;
      others = λ k h. left_same own others rest x v None popped k h ∙ was.others k (omega arith);
      as_before = λ k h. below own others rest x v None at k (omega arith) ∙ was.as_before k (omega arith);
      merged = λ k h. from_there own others rest x v None
          (λ j. if nat_lt j c.args.from then None else option_or (get_or c.args.own.now.items j None) (get_or c.args.others.items j None)) at k
          (omega arith) (let o = last own others rest x v None popped in let oo = was.others at (omega arith) in let ow = was.as_before at (omega arith) in
          let read = get_or_read own at c.index_mut.result.now (omega arith) c.index_mut.ensures.value None in cc)
          (omega arith) (λ past. was.merged k (omega arith));
    }
