use Rattle.std.proofs.Common.{map}
use Rattle.std.specs.Arc.{arc_value}
use Rattle.planning.proofs.ProductsJoined.{can_list, can_tabulate}
use Rattle.planning.proofs.listed_text.put_named_alone.Goals as goal

pub lines_of-requires-clause-sales : goal.lines_of-requires-clause-sales
lines_of-requires-clause-sales g c lifetimes within =
    rw c.deref.ensures.value (can_list c.args.what c.requires.products.0 (map arc_value c.args.products.now) _ c.requires.products.1 c.in_ok-listings.ensures)

pub lines_of-requires-clause-bars : goal.lines_of-requires-clause-bars
lines_of-requires-clause-bars g c lifetimes within =
    rw c.deref-2.ensures.value (can_tabulate c.args.what c.requires.products.0 (map arc_value c.args.products.now) _ c.requires.products.1 c.in_ok-tables.ensures)
