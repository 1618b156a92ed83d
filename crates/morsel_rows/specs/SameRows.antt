-- Partitions compared row by row, and rows as `==` compares them.
-- To be believed of a crate used by itself: equality of inputs, by which no answer is defined.
use Rattle.std.specs.Prelude.{Bool, ◌&&◌}
use Rattle.std.specs.Cmp.{IsEquivalence}
use Rattle.std.specs.Cmp.Lexicographic.{pointwise}
use Rattle.std.proofs.Common.{arith}
use Rattle.std.proofs.lemmas.Bool.Decides.{nat_tests}
use Rattle.base.proofs.Exact.{IsExact, exact_equiv, exact_list}
use Rattle.order_list.specs.SameOrders.{are_same_orders, exact_orders}
use Rattle.row_types.specs.contracts.trade.ExecutionPartialEq.TheImpl as execution_eq
use Rattle.row_types.specs.contracts.trade.SalePartialEq.TheImpl as sale_eq
use Rattle.morsel_rows.specs.Partitions.{PartitionView}

-- both have the same rows in the same order
abbrev pub is_same_partition : PartitionView → PartitionView → Bool
is_same_partition a b =
    are_same_orders a.orders b.orders
    && (pointwise (execution_eq.ghosts).eq a.executions b.executions
    && pointwise (sale_eq.ghosts).eq a.own_priced b.own_priced)

-- ---- each of the tests is exact, and so an equivalence

exact_executions : IsExact (pointwise (execution_eq.ghosts).eq)
exact_executions =
    exact_list (record { itself = λ a. grind (arith, nat_tests); one = λ a b h. grind (arith, nat_tests) })

exact_sales : IsExact (pointwise (sale_eq.ghosts).eq)
exact_sales = exact_list (record { itself = λ a. grind (arith, nat_tests); one = λ a b h. grind (arith, nat_tests) })

pub exact_partition : IsExact is_same_partition
exact_partition = record {
  itself = λ a. grind (arith, exact_orders.itself, exact_executions.itself, exact_sales.itself);
  one = λ a b h. grind (arith, exact_orders.one, exact_executions.one, exact_sales.one);
}

pub partition_equiv : IsEquivalence is_same_partition
partition_equiv = exact_equiv exact_partition
