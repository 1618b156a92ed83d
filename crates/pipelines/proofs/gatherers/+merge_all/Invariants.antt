use Rattle.std.proofs.Common.{vec_len}
use Rattle.pipelines.proofs.gatherers.+merge_all.Given as goal

abbrev pub decreases-merge_all : goal.decreases-merge_all
decreases-merge_all g l = vec_len l.others
