use Rattle.std.proofs.Common.{◌≡◌, map, take}
use Rattle.meaning.proofs.sorted_symbols.SortedSymbols.of.Given as goal

abbrev pub invariant-loop-symbol : goal.invariant-loop-symbol
invariant-loop-symbol g l =
    map (λ name. name.now) l.names.items ≡ take l.symbol-index l.symbols
