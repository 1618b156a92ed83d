-- Order rows as `==` compares them.
-- To be believed of a crate used by itself: equality of inputs, by which no answer is defined.
use Rattle.std.specs.Prelude.{Bool, List}
use Rattle.std.specs.Cmp.{IsEquivalence}
use Rattle.std.specs.Cmp.Lexicographic.{pointwise}
use Rattle.std.proofs.Common.{arith}
use Rattle.std.proofs.lemmas.Bool.Decides.{nat_tests}
use Rattle.base.proofs.Exact.{IsExact, exact_equiv, exact_list}
use Rattle.row_types.specs.contracts.order.OrderRowPartialEq.TheImpl as order_eq
use Rattle.row_types.specs.declared.order.OrderRow.{OrderRow}

-- both have the same order rows in the same order
abbrev pub are_same_orders : List OrderRow → List OrderRow → Bool
are_same_orders = pointwise (order_eq.ghosts).eq

-- ---- the test is exact, and so an equivalence

pub exact_orders : IsExact are_same_orders
exact_orders = exact_list (record { itself = λ a. grind (arith, nat_tests); one = λ a b h. grind (arith, nat_tests) })

pub orders_equiv : IsEquivalence are_same_orders
orders_equiv = exact_equiv exact_orders
