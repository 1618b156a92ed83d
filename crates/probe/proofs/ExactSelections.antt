-- `==` of selections tells apart all that differs.
use Rattle.std.proofs.Common.{arith}
use Rattle.std.proofs.lemmas.Bool.{and_parts}
use Rattle.std.proofs.lemmas.Bool.Decides.{nat_tests}
use Rattle.std.specs.Option.{option_eq}
use Rattle.std.specs.contracts.alloc.Global as global
use Rattle.std.specs.contracts.impls.GlobalAllocator.TheImpl as allocator
use Rattle.base.proofs.Exact.{IsExact, exact_list, exact_nat, exact_option}
use Rattle.probe.specs.contracts.selection.KindsPartialEq.TheImpl as kinds_eq
use Rattle.probe.specs.contracts.selection.LocatesPartialEq.TheImpl as locates_eq
use Rattle.probe.specs.contracts.selection.SelectionPartialEq.TheImpl as selection_eq
use Rattle.probe.specs.contracts.selection.SpanPartialEq.TheImpl as span_eq

exact_span : IsExact (option_eq (span_eq.ghosts).eq)
exact_span = exact_option (record { itself = λ a. grind (arith, nat_tests); one = λ a b h. grind (arith, nat_tests) })

exact_kinds : IsExact (kinds_eq.ghosts).eq
exact_kinds = record { itself = λ a. grind arith; one = λ a b h. grind arith }

exact_locates : IsExact (locates_eq.ghosts global.the_row allocator.ghosts locates_eq.no_dict locates_eq.no_dict).eq
exact_locates = record {
  itself = λ a. grind (arith, (exact_list exact_nat).itself);
  one = λ a b h. grind (arith, (exact_list exact_nat).one);
}

pub exact_selections : IsExact (selection_eq.ghosts global.the_row allocator.ghosts selection_eq.no_dict selection_eq.no_dict).eq
exact_selections = record {
  itself = λ a. grind (arith, exact_locates.itself, exact_span.itself, exact_kinds.itself);
  one = λ a b h.
      let first = and_parts _ _ h in
      let last = and_parts _ _ first.1 in
      λ i. record {
        locates = exact_locates.one a.locates b.locates first.0 i;
        span = exact_span.one a.span b.span last.0 i;
        kinds = exact_kinds.one a.kinds b.kinds last.1 i;
      };
}
