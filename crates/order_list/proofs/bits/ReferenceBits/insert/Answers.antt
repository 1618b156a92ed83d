use Rattle.std.proofs.Common.{rules}
use Rattle.order_list.proofs.FilteredOrders.{inserted, kept}
use Rattle.order_list.proofs.bits.ReferenceBits.insert.Goals as goal

pub returns-clause-inserted : goal.returns-clause-inserted
returns-clause-inserted c =
    inserted c.self.inside.words.items c.args.order_no c.seat-word.result.0 c.seat-word.result.1 c.index_mut.result.now
    (search rules) (search rules) (search rules) (search rules)

pub returns-clause-kept : goal.returns-clause-kept
returns-clause-kept c other has =
    kept c.self.inside.words.items c.args.order_no c.seat-word.result.0 c.seat-word.result.1 c.index_mut.result.now
    (search rules) (search rules) (search rules) (search rules) other (search (has, rules))
