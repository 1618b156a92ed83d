use Rattle.std.proofs.Common.{◌≡◌, map, arith, rules}
use Rattle.std.proofs.lemmas.Grind.{common_steps}
use Rattle.meaning.proofs.ListedLocates.{moved_names}
use Rattle.meaning.proofs.sorted_symbols.SortedSymbols.of.Goals as goal

pub returns : goal.returns
returns g c =
    let names = c.loop-symbol.names.items in
    let all : map (λ name. name.now) names ≡ c.args.symbols.now = grind (arith, common_steps) in
    moved_names names _ c.args.symbols.now (search rules) all
