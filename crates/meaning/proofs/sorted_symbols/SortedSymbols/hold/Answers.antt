use Rattle.std.proofs.Common.{◌≡◌, ◌∙◌, ap, subst, sym, map, IsSorted, nat_cmp, bytes_eq}
use Rattle.std.specs.Cmp.Lexicographic.{slice_cmp}
use Rattle.std.specs.List.{list_any}
use Rattle.meaning.proofs.ListedLocates.{found_name}
use Rattle.meaning.proofs.sorted_symbols.SortedSymbols.hold.Goals as goal

pub returns : goal.returns
returns g c =
    let same = c.deref.ensures.value in
    let name = c.args.name.now in
    let sorted = subst (λ names. IsSorted (λ x y. slice_cmp nat_cmp x.now y.now) names) (sym same) c.self.invariant in
    let found = found_name c.deref.result.now name c.binary_search.result sorted c.binary_search.ensures.bound c.binary_search.ensures.position in
    let seen = subst (λ names. map (λ x. x.now) names ≡ c.args.self.now) (sym same) c.self.view_is in
    c.is_ok.ensures.value ∙ found ∙ ap (λ symbols. list_any (λ symbol. bytes_eq symbol name) symbols) seen
