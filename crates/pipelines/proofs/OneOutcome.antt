-- Of works and a link that are functions there is one outcome. For who runs such a pair.
use Rattle.std.proofs.Common.{◌≡◌, List, ap, ◌∙◌}
use Rattle.gathering.specs.declared.linked.Linked.{Linked}
use Rattle.gathering.specs.declared.linked.Linked.TheVariants.{Next, Halt}
use Rattle.pipelines.specs.Outcomes.{IsOutcome, outcome_of}
use Rattle.pipelines.specs.declared.outcome.Outcome.{Outcome}
use Rattle.pipelines.specs.declared.outcome.Outcome.TheVariants.{Finished, Stopped}

module _ {F I T K S : Type 0} (IsFirst : F → Type 0) (Links : F → Linked (List I) K S → Type 0) (IsTotalOf : List I → T → Type 0)
    (first : F) (linked : F → Linked (List I) K S) (total_of : List I → T) (one_first : (f : F) → IsFirst f → f ≡ first)
    (one_link : (f : F) (l : Linked (List I) K S) → IsFirst f → Links f l → l ≡ linked f)
    (one_total : (inputs : List I) (total : T) → IsTotalOf inputs total → total ≡ total_of inputs) where
  pub one_outcome : (outcome : Outcome T K S) → IsOutcome IsFirst Links IsTotalOf outcome → outcome ≡ outcome_of total_of (linked first)
  one_outcome (Finished total kept) (f, inputs, is, links, of) =
      ap (λ t. Finished t kept) (one_total inputs total of) ∙ ap (outcome_of total_of) (one_link f (Next inputs kept) is links ∙ ap linked (one_first f is))
  one_outcome (Stopped stop) (f, is, links) = ap (outcome_of total_of) (one_link f (Halt stop) is links ∙ ap linked (one_first f is))
