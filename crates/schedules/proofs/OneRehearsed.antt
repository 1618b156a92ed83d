-- Of works and a link that are functions two schedules have one answer. For who rehearses such a pair.
use Rattle.std.proofs.Common.{◌≡◌, ℕ, List, inl, inr, sym, ap, ◌∙◌}
use Rattle.std.specs.Option.{option_map_or}
use Rattle.gathering.specs.declared.linked.Linked.{Linked}
use Rattle.gathering.specs.declared.linked.Linked.TheVariants.{Next, Halt}
use Rattle.schedules.specs.Rehearsals.{IsRehearsed, after_link}
use Rattle.schedules.specs.Schedules.{Event, first_left}
use Rattle.schedules.specs.declared.rehearsed.Rehearsed.{Rehearsed}
use Rattle.schedules.specs.declared.rehearsed.Rehearsed.TheVariants.{Finished, Stopped, Missing}

module _ {F I T K S : Type 0} (tasks : ℕ) (IsFirst : F → Type 0) (Links : F → Linked (List I) K S → Type 0) (IsTotalOf : List I → T → Type 0)
    (gatherers : ℕ) (events1 events2 : List Event) (first : F) (linked : F → Linked (List I) K S) (total_of : List I → T)
    (one_first : (f : F) → IsFirst f → f ≡ first) (one_link : (f : F) (l : Linked (List I) K S) → IsFirst f → Links f l → l ≡ linked f)
    (one_total : (inputs : List I) (total : T) → IsTotalOf inputs total → total ≡ total_of inputs) where
  linked_is : (f : F) (l : Linked (List I) K S) → IsFirst f → Links f l → linked first ≡ l
  linked_is f l is links = sym (one_link f l is links ∙ ap linked (one_first f is))

  pub one_rehearsed : (rehearsed : Rehearsed T K S) → IsRehearsed tasks IsFirst Links IsTotalOf gatherers events1 events2 rehearsed
      → rehearsed ≡ option_map_or (λ task. Missing 1 task) (first_left gatherers tasks events1) (after_link total_of gatherers events2 (linked first))
  one_rehearsed (Missing pipeline task) (inl (number, left)) = rw (left, number)
  one_rehearsed (Missing pipeline task) (inr (number, none, (f, inputs, kept, is, links, left))) =
      rw (none, linked_is f (Next inputs kept) is links, left, number)
  one_rehearsed (Finished total kept) (none, (f, inputs, is, links, left, of)) =
      rw (none, linked_is f (Next inputs kept) is links, left, one_total inputs total of)
  one_rehearsed (Stopped stop) (none, (f, is, links)) = rw (none, linked_is f (Halt stop) is links)
