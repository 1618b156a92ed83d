-- What a pair of pipelines gives.
-- To be believed of a crate used by itself.
use Rattle.std.specs.Prelude.{List}
use Rattle.gathering.specs.declared.linked.Linked.{Linked}
use Rattle.gathering.specs.declared.linked.Linked.TheVariants.{Next, Halt}
use Rattle.pipelines.specs.declared.outcome.Outcome.{Outcome}
use Rattle.pipelines.specs.declared.outcome.Outcome.TheVariants.{Finished, Stopped}

-- `IsFirst` says which totals of the first pipeline there may be, `Links` what one may be linked to, and `IsTotalOf`
-- what a list of inputs of the second may add up to.
module _ {F I T K S : Type 0} (IsFirst : F → Type 0) (Links : F → Linked (List I) K S → Type 0)
    (IsTotalOf : List I → T → Type 0) where
  -- a total of all inputs that the link gave for some first total, with what it kept; or what it halted with
  abbrev pub IsOutcome : Outcome T K S → Type 0
  IsOutcome (Finished total kept) =
      (first : F) × (inputs : List I) × IsFirst first × Links first (Next inputs kept) × IsTotalOf inputs total
  IsOutcome (Stopped stop) = (first : F) × IsFirst first × Links first (Halt stop)

-- the outcome of works and a link that are functions: the total of all inputs that the link gave, with what it kept;
-- or what it halted with
abbrev pub outcome_of : {I T K S : Type 0}
    → (List I → T) → Linked (List I) K S → Outcome T K S
outcome_of total_of (Next inputs kept) = Finished (total_of inputs) kept
outcome_of total_of (Halt stop) = Stopped stop
