-- The locates that a query selects.
-- To be believed.
use Rattle.std.specs.Prelude.{ℕ, ◌^◌, Bool, true, List, Option, Some, None, filter, bytes_eq}
use Rattle.std.specs.List.{list_any}
use Rattle.base.specs.Least.{numbers_below}
use Rattle.probe.specs.declared.selection.Locates.{Locates}
use Rattle.probe.specs.declared.selection.Locates.TheVariants.{All, Listed}

-- a name is among the symbols; if the query lists no symbols, each name passes
abbrev pub has_name : Option (List (List ℕ)) → List ℕ → Bool
has_name None name = true
has_name (Some symbols) name = list_any (λ symbol. bytes_eq symbol name) symbols

-- of the locates 0 to 65,535, by their names, those whose names are among the symbols, in rising order
unfoldable pub selected_locates : List (List ℕ) → (ℕ → List ℕ) → List ℕ
selected_locates symbols names = filter (λ locate. has_name (Some symbols) (names locate)) (numbers_below (2 ^ 16))

-- what a query with these symbols lists: the locates of those names, or all if it lists no symbols
abbrev pub locates_of : {A : Type 0} → Option (List (List ℕ)) → (ℕ → List ℕ) → Locates A
locates_of None names = All
locates_of (Some symbols) names = Listed (selected_locates symbols names)
