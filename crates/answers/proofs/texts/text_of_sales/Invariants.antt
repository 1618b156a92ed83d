use Rattle.std.proofs.Common.{◌≡◌, take}
use Rattle.time_and_sales.specs.Names.{names_by}
use Rattle.time_and_sales.specs.Texts.{listing_text}
use Rattle.answers.proofs.texts.text_of_sales.Given as goal

-- the header and the lines so far
abbrev pub invariant-loop-sale : goal.invariant-loop-sale
invariant-loop-sale g l = l.bytes.items ≡ listing_text (names_by l.names) (take l.sale-index l.sales)
