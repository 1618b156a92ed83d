use Rattle.std.proofs.lemmas.Bool.{ltb-true}
use Rattle.buckets.proofs.RisingRows.{below_last}
use Rattle.buckets.proofs.rising_orders.are_below.Goals as goal

pub returns-else-is_empty : goal.returns-else-is_empty
returns-else-is_empty c = λ less. below_last c.args.lists.now c.args.order_no c.index-lists-lists.result c.requires (ltb-true _ _ less)
