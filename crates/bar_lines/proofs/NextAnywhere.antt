-- Bars joined in whatever order they come.
use Rattle.std.proofs.Common.{◌≡◌, ℕ, ◌+◌, ◌<◌, List, [], ◌∷◌, ◌++◌, length, map, take, get_or, Equal}
use Rattle.std.proofs.Common.{Contains, sym, ◌∙◌, arith}
use Rattle.std.proofs.lemmas.List.{get_or-map, length-map}
use Rattle.bar.specs.declared.bar.Bar.{Bar}
use Rattle.bar.specs.OneBar.{key_cmp, CanJoin}
use Rattle.bars.specs.Bars.{AllSumsFit, IsUnionOf}
use Rattle.bars.specs.Steps.{no_bar}
use Rattle.bars.proofs.JoinedTables.{union_more}
use Rattle.bars.proofs.SumsAreBounded.{next_fits}

-- a bar that is joined to what those before it are joined to, wherever it comes: with one of its key its sums fit, and one bar more is joined
pub next_anywhere : {X : Type 0} (f : X → Bar) (xs : List X) (i : ℕ) (d : X) (bar : Bar) (table : List Bar) → AllSumsFit (map f xs)
    → i < length xs → bar ≡ f (get_or xs i d) → IsUnionOf (take i (map f xs)) table
    → ((kept : Bar) → Contains table kept → key_cmp kept bar ≡ Equal → CanJoin kept bar)
    × ((new : List Bar) → IsUnionOf (table ++ bar ∷ []) new → IsUnionOf (take (i + 1) (map f xs)) new)
next_anywhere f xs i d bar table fit within is union =
    let n = length-map xs f in
    let here : get_or (map f xs) i no_bar ≡ bar = get_or-map f xs i d no_bar within ∙ sym is in (
      λ kept there same. rw here at (next_fits (map f xs) table i no_bar kept (omega (arith, n)) union fit there (rw here same)),
      λ new made. grind (arith, union_more (map f xs) i no_bar table new),
    )
