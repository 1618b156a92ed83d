use Rattle.time_and_sales.specs.Names.{names_by}
use Rattle.bar_lines.proofs.RangeTexts.{part_within, text_of_part}
use Rattle.bar_lines.proofs.bar_lines.BarLinesParts.put.Goals as goal

pub bounds_from-bounds-requires : goal.bounds_from-bounds-requires
bounds_from-bounds-requires g c =
    rw c.as_slice.ensures.value
    (part_within (names_by c.self.inside.names.now) g.J.AllBars.bars c.self.inside.bounds.items c.args.self.now c.args.part c.self.view_is c.requires.within)

pub returns-clause-written : goal.returns-clause-written
returns-clause-written g c =
    let bounds = c.self.inside.bounds.items in
    let is = text_of_part (names_by c.self.inside.names.now) g.J.AllBars.bars bounds c.args.self.now c.args.part c.self.view_is c.requires.within in
    rw (← is) (rw (c.bounds_from-bounds.ensures, c.as_slice.ensures.value) at c.put_lines.ensures.written)

pub returns-clause-count : goal.returns-clause-count
returns-clause-count g c =
    let bounds = c.self.inside.bounds.items in
    let is = text_of_part (names_by c.self.inside.names.now) g.J.AllBars.bars bounds c.args.self.now c.args.part c.self.view_is c.requires.within in
    rw (← is) (rw (c.bounds_from-bounds.ensures, c.as_slice.ensures.value) at c.put_lines.ensures.count)
