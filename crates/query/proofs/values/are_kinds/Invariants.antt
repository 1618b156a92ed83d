use Rattle.std.proofs.Common.{◌≡◌}
use Rattle.std.specs.List.{list_all}
use Rattle.query.specs.Values.{is_kind}
use Rattle.query.specs.Words.{split_by}
use Rattle.query.proofs.CutAtSeparator.{after_part, left}
use Rattle.query.proofs.values.are_kinds.Given as goal

abbrev pub invariant-loop-rest : goal.invariant-loop-rest
invariant-loop-rest l =
    list_all is_kind (after_part 44 l.rest) ≡ list_all is_kind (split_by 44 l.fn.bytes)

abbrev pub decreases-loop-rest : goal.decreases-loop-rest
decreases-loop-rest l = left l.rest
