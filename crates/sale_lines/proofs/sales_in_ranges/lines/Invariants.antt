use Rattle.std.proofs.Common.{◌≡◌}
use Rattle.time_and_sales.specs.Names.{names_by}
use Rattle.time_and_sales.specs.Texts.{lines_text}
use Rattle.sale_lines.proofs.sales_in_ranges.lines.Given as goal

-- the lines of the sales so far
abbrev pub invariant-loop-sale : goal.invariant-loop-sale
invariant-loop-sale l = l.text.items ≡ lines_text (names_by l.names) l.yielded
