-- What is asked of sales, compared as `==` compares it: selections, and what is listed.
-- To be believed of a crate used by itself: equality of inputs, by which no answer is defined.
use Rattle.std.specs.Prelude.{Bool}
use Rattle.std.specs.contracts.alloc.Global as global
use Rattle.std.specs.contracts.impls.GlobalAllocator.TheImpl as allocator
use Rattle.std.specs.declared.alloc.Global.{Global}
use Rattle.std.proofs.Common.{arith}
use Rattle.std.proofs.lemmas.Bool.Decides.{nat_tests}
use Rattle.base.proofs.Exact.{IsExact}
use Rattle.probe.proofs.ExactSelections.{exact_selections}
use Rattle.probe.specs.contracts.selection.SelectionPartialEq.TheImpl as selection_eq
use Rattle.probe.specs.declared.selection.Selection.{Selection}
use Rattle.meaning.specs.contracts.query.WhatPartialEq.TheImpl as what_eq
use Rattle.meaning.specs.declared.query.What.{What}

-- what `==` says of two that are listed
abbrev pub is_same_what : What → What → Bool
is_same_what = (what_eq.ghosts).eq

-- what `==` says of two selections
unfoldable pub is_same_selection : Selection Global → Selection Global → Bool
is_same_selection = (selection_eq.ghosts global.the_row allocator.ghosts selection_eq.no_dict selection_eq.no_dict).eq

-- ---- the tests are exact

pub exact_what : IsExact is_same_what
exact_what = record { itself = λ a. grind (arith, nat_tests); one = λ a b h. grind (arith, nat_tests) }

pub exact_selection : IsExact is_same_selection
unfolding is_same_selection
exact_selection = exact_selections
