-- Bars that are joined alike have the same starts.
use Rattle.std.proofs.Common.{◌≡◌, ℕ, ◌<◌, false, All, List, [], ◌∷◌, Some, None, Contains, refl}
use Rattle.std.proofs.Common.{ap, ◌∙◌, arith, ⊎_elim}
use Rattle.std.proofs.lemmas.Bool.{cases_lt}
use Rattle.std.proofs.lemmas.Bool.Decides.{nat_tests}
use Rattle.std.proofs.lemmas.List.Elements.{All-contains_itself, All-weaker}
use Rattle.base.proofs.Order.{Contains-filter}
use Rattle.time_and_sales.proofs.InRanges.{none_pass}
use Rattle.bar.specs.declared.bar.Bar.{Bar}
use Rattle.bar.specs.OneBar.{joined_bar}
use Rattle.bars.specs.Bars.{under, joined_all}
use Rattle.bars.specs.Steps.{AreJoinedAlike}
use Rattle.bar.proofs.OneBar.{has, has_itself, key_of}

some_joined : (bar : Bar) (bars : List Bar) → joined_all (Some bar) bars ≡ None → ⊥
some_joined bar [] e = cc
some_joined bar (x ∷ xs) e = some_joined (joined_bar bar x) xs e

not_none : (bars : List Bar) → joined_all None bars ≡ None → bars ≡ []
not_none [] e = refl
not_none (x ∷ xs) e = absurd (some_joined x xs e)

pub starts_alike : (limit : ℕ) (one other : List Bar) → AreJoinedAlike one other → All (λ bar. bar.start < limit) other → All (λ bar. bar.start < limit) one
starts_alike limit one other alike fits =
    All-weaker (Contains one) (λ bar. bar.start < limit) (λ bar c.
    ⊎_elim (λ low. low) (λ high.
    let key = key_of bar in
    let none = none_pass (λ b. has b key) other (All-weaker (λ b. b.start < limit) (λ b. has b key ≡ false) (λ b low. grind (arith, nat_tests)) other fits) in
    let gone = not_none (under key one) (alike key ∙ ap (joined_all None) none) in
    absurd (omega (arith, (rw gone at (Contains-filter (λ b. has b key) one bar c (has_itself bar))).1)))
    (cases_lt bar.start limit))
    one (All-contains_itself one)
