use Rattle.std.proofs.Common.{◌∙◌, ap, arith, length}
use Rattle.std.specs.Arc.{arc_value}
use Rattle.std.proofs.lemmas.List.{length-map}
use Rattle.std.proofs.lemmas.List.FromFn.{length-map-range_with_len}
use Rattle.block_scan.specs.Attempts.{block_at}
use Rattle.block_scan.proofs.BlocksAndAttempts.{blocks_are}
use Rattle.block_scan.proofs.blocks.block_inputs.Goals as goal

pub of-requires-clause-admissible : goal.of-requires-clause-admissible
of-requires-clause-admissible g c κs within =
    rw c.in_ok-blocks.ensures (blocks_are _ _ c.args.division.blocks
    (record { limit = c.requires.limit; some = c.requires.parts.0; most = c.requires.parts.1 }) c.args.division.in_range.1)

pub of-requires-clause-few : goal.of-requires-clause-few
of-requires-clause-few g c κs within =
    let count = ap length c.in_ok-blocks.ensures ∙ length-map-range_with_len (block_at _ _ c.args.division.blocks) 0 c.args.division.blocks in
    omega (arith, length-map c.in_ok-blocks.field-0.items arc_value, count, c.args.division.in_range.2)
