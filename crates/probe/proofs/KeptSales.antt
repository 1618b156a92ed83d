-- The sales that are priced, and those that are kept: how many they are, and that each that is kept has shares.
use Rattle.std.proofs.Common.{ℕ, ◌<◌, ◌≤◌, Bool, All, List, length, arith}
use Rattle.std.proofs.lemmas.Bool.{and_parts}
use borrow.Author.Tests.{ltb-true}
use Rattle.std.proofs.lemmas.List.Elements.{filter_passes}
use Rattle.std.proofs.lemmas.List.Sums.{count_by-le-length, length-filter}
use Rattle.order_table.specs.declared.OrderRow.{OrderRow}
use Rattle.base.proofs.Lists.{length-filter_map}
use Rattle.probe.specs.Pricing.{Execution, Sale, priced, sale_of}
use Rattle.probe.specs.Selection.{is_kept, kept}

pub length-priced : (rows : List OrderRow) (executions : List Execution) → length (priced rows executions) ≤ length executions
length-priced rows = length-filter_map (sale_of rows)

pub length-kept : (breaks : List ℕ) (selection : Sale → Bool) (sales : List Sale) → length (kept breaks selection sales) ≤ length sales
length-kept breaks selection sales = omega (arith, length-filter (is_kept breaks selection) sales, count_by-le-length (is_kept breaks selection) sales)

-- each has shares
pub kept_have_shares : (breaks : List ℕ) (selection : Sale → Bool) (sales : List Sale) → All (λ sale. 0 < sale.shares) (kept breaks selection sales)
kept_have_shares breaks selection sales k d below =
    let passed = filter_passes (is_kept breaks selection) sales k d below in
    let rest = and_parts _ _ (and_parts _ _ passed).1 in
    ltb-true 0 _ rest.1
