use Rattle.std.proofs.Common.{map, subst, sym}
use Rattle.morsel_rows.specs.Partitions.{AreRowsByPlace, joined_partitions, partition_at}
use Rattle.planning.proofs.LinkedBuckets.{rows_by_place}
use Rattle.planning.proofs.plan_link.PlanLinkLinkScanWorkBucketWork.link.Goals as goal

pub go_on-requires : goal.go_on-requires
go_on-requires c number =
    subst (λ l. AreRowsByPlace (joined_partitions (map (partition_at number) l))) (sym c.into_rows.ensures) (rows_by_place c.args.total c.requires number)
