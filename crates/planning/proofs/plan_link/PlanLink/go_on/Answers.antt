use Rattle.std.proofs.Common.{ap, ap₂, ◌∙◌, map, subst, sym, arith}
use Rattle.std.specs.Arc.{arc_value}
use Rattle.std.proofs.lemmas.List.{length-map}
use Rattle.std.proofs.lemmas.List.FromFn.{length-map-range_with_len}
use Rattle.morsel_rows.specs.Partitions.{AreRowsByPlace, joined_partitions}
use Rattle.buckets.specs.Buckets.{AreNumbered}
use Rattle.gathering.specs.declared.linked.Linked.TheVariants.{Next}
use Rattle.planning.specs.Planned.{LinkView, all_directory, planned_buckets}
use Rattle.planning.proofs.LinkedBuckets.{IsPlanOf, buckets_are, buckets_numbered, planned_rows_are}
use Rattle.planning.proofs.plan_link.PlanLink.go_on.Goals as goal
use Rattle.planning.proofs.plan_link.PlanLink.go_on.Goals.{In_ok-plan-2}

planned : (c : In_ok-plan-2) → IsPlanOf c.args.self.now.query (map arc_value c.args.morsels.items) (arc_value c.in_ok-plan-2.plan)
planned c =
    grind (arith, c.in_ok-plan.ensures, c.in_ok-plan-2.ensures.ok, c.self.view_is, c.in_ok-names.ensures, c.in_ok-directory_of.ensures, c.deref.ensures.value)

pub buckets_of-requires-clause-rows : goal.buckets_of-requires-clause-rows
buckets_of-requires-clause-rows c number =
    let of = planned (goal.at.buckets_of-requires-clause-rows c).In_ok-plan-2 in
    subst (λ l. AreRowsByPlace (joined_partitions l)) (sym (planned_rows_are _ _ _ number of)) (c.requires number)

pub of-inputs-requires-clause-admissible : goal.of-inputs-requires-clause-admissible
of-inputs-requires-clause-admissible c lifetimes =
    subst AreNumbered (sym c.in_ok-buckets_of.ensures) (buckets_numbered (arc_value c.in_ok-plan-2.plan) _)

pub of-inputs-requires-clause-few : goal.of-inputs-requires-clause-few
of-inputs-requires-clause-few c = grind (arith, length-map, length-map-range_with_len, c.in_ok-buckets_of.ensures, c.self.invariant)

pub returns : goal.returns
returns c =
    let morsels = map arc_value c.args.morsels.items in
    ap₂ Next
    (c.of-inputs.ensures ∙ c.in_ok-buckets_of.ensures ∙ buckets_are _ _ _ _ (planned (goal.at.returns c).In_ok-plan-2)
    ∙ ap (λ (v : LinkView). planned_buckets c.args.self.now.query morsels v.parts) c.self.view_is)
    (c.in_ok-names.ensures ∙ c.in_ok-directory_of.ensures ∙ ap (λ l. all_directory (map arc_value l)) c.deref.ensures.value)
