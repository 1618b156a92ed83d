-- Tests that pass of two values exactly if they are one. Of a test that goes by the fields of a record or by the cases of an enum, `grind (arith, nat_tests)`
-- shows that it is exact, with `itself` and `one` of the fields' own tests in its list.
use Rattle.std.proofs.Common.{◌≡◌, Bool, true, nat_eq, refl, subst, arith}
use Rattle.std.specs.Bool.{Decides}
use Rattle.std.specs.Cmp.{IsEquivalence, decided, nat_eq_equiv}
use Rattle.std.specs.Cmp.Lexicographic.{pointwise, pointwise_decides}
use Rattle.std.specs.Option.{option_eq}
use Rattle.std.proofs.lemmas.Bool.{eqb-true}

-- the test passes of each value with itself, and two values of which it passes are one
pub record IsExact {X : Type 0} (test : X → X → Bool) : Type 0 where
  pub itself : (x : X) → test x x ≡ true
  pub one : (x y : X) → test x y ≡ true → x ≡ y

module _ {X : Type 0} {test : X → X → Bool} (exact : IsExact test) where
  decides : (x y : X) → Decides (test x y) (x ≡ y)
  decides x y = (exact.one x y, λ same. subst (λ z. test x z ≡ true) same (exact.itself x))

  pub exact_equiv : IsEquivalence test
  exact_equiv = decided test decides

  pub exact_list : IsExact (pointwise test)
  exact_list = record { itself = λ xs. (pointwise_decides decides xs xs).1 refl; one = λ xs ys. (pointwise_decides decides xs ys).0 }

  pub exact_option : IsExact (option_eq test)
  exact_option = record { itself = λ x. grind (arith, exact.itself); one = λ x y h. grind (arith, exact.one) }

pub exact_nat : IsExact nat_eq
exact_nat = record { itself = nat_eq_equiv.refl; one = eqb-true }
