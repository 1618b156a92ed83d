-- Slices of listings merged: what they give, and what a loop over the merge has run.
use Rattle.std.proofs.Common.{◌≡◌, ◌+◌, true, false, List, [], ◌∷◌, ◌++◌, map, Iter, Option, Some, None, ap, subst}
use Rattle.std.specs.Iterator.{DrainsIf, Yields}
use Rattle.std.specs.Iterator.Adapters.{copied_source, copied_steps}
use Rattle.std.specs.declared.iter.Copied.{Copied}
use Rattle.std.specs.Slice.Iter.{iter_rest, iter_steps}
use Rattle.std.proofs.iter.Next.{Yields-more}
use Rattle.std.proofs.lemmas.Iterator.{YieldsList-from_slice}
use Rattle.std.proofs.lemmas.Iterator.Consumers.{YieldsList-from_copied}
use Rattle.itertools.specs.KMerge.{SourcesGive, kmerge_steps}
use Rattle.itertools.specs.declared.kmerge_impl.KMergeBy.{KMergeBy}
use Rattle.row_types.specs.declared.trade.Sale.{Sale}
use Rattle.time_and_sales.proofs.MergedListings.{before}

-- what an iterator over sales that stay where they are has left
abbrev pub rest_of : Copied (Iter Sale) → List Sale
rest_of part = iter_rest (copied_source part)

pub slices_give : (gives : Copied (Iter Sale) → Copied (Iter Sale) → Type 0) → ((p j : Copied (Iter Sale)) → gives p j → j ≡ p)
    → (parts : List (Copied (Iter Sale))) → SourcesGive gives (copied_steps iter_steps) parts (map rest_of parts)
slices_give gives h [] = tt
slices_give gives h (p ∷ parts) = ((λ j g. (YieldsList-from_copied (YieldsList-from_slice (rest_of p) (ap rest_of (h p j g)))).runs), slices_give gives h parts)

-- a step of a merge by place
abbrev pub merges : {F Z : Type 0} → KMergeBy (Copied (Iter Sale)) F Z Sale → Option Sale → KMergeBy (Copied (Iter Sale)) F Z Sale → Type 0
merges = kmerge_steps (copied_steps iter_steps) (λ _ first. first ≡ before)

-- what a loop over a merge has run: up to an item, and to the end
module _ {M : Type 0} (steps : M → Option Sale → M → Type 0) (m start : M) (same : start ≡ m) (xs : List Sale) (t u : M) (ran : Yields steps start xs t) where
  pub ran_to : (x : Sale) → steps t (Some x) u → DrainsIf steps (false ≡ true) m (xs ++ x ∷ [])
  ran_to x e = subst (λ s. DrainsIf steps (false ≡ true) s (xs ++ x ∷ [])) same (u, Yields-more steps start xs t x u ran e, λ w. absurd (cc))

  pub ran_out : steps t None u → DrainsIf steps (true ≡ true) m xs
  ran_out e = subst (λ s. DrainsIf steps (true ≡ true) s xs) same (t, ran, λ _. (u, e))
