use Rattle.std.proofs.Common.{arith, rules}
use Rattle.day_file.proofs.Kept.{bytes_of_type}
use Rattle.day_file.proofs.Walks.{walk_ends, walk_truncated, walk_whole, walk_within}
use Rattle.day_file.proofs.frame.Frames.of.Goals as goal

pub invariant_of-result : goal.invariant_of-result
invariant_of-result c = (c.requires, bytes_of_type c.args.bytes.now c.type_inv.bytes)

pub returns : goal.returns
returns c = search (rules, arith, bytes_of_type, walk_whole, walk_truncated, walk_ends, walk_within)
