use Rattle.std.proofs.Common.{◌≡◌, ◌≤◌, ◌*◌, length, map, take, sum}
use Rattle.std.specs.Arc.{arc_value}
use Rattle.tests_support.proofs.inputs.inputs_of.Given as goal

-- each number is below 2 ^ 64
abbrev pub invariant-loop-number : goal.invariant-loop-number
invariant-loop-number l = record {
  made : map arc_value l.items.items ≡ take l.number-index l.numbers;
  count : length l.items.items ≡ l.number-index;
  bounded : sum (map arc_value l.items.items) ≤ l.number-index * 18446744073709551616;
}
