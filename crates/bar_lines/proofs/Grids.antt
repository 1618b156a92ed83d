-- The bars in the slots of a grid are by key, and a bar that is put into its slot is joined to those of its key.
use Rattle.std.proofs.Common.{◌≡◌, ℕ, ◌+◌, ◌-◌, ◌*◌, ◌<◌, ◌≤◌, List, [], ◌∷◌, ◌++◌, length, take, drop, get_or, set, replicate, Option, ◌≢◌, zero, suc}
use Rattle.std.proofs.Common.{Contains, Some, None, Less, Equal, refl, sym, ap, ap₂, ◌∙◌, subst, arith, append_assoc, ⊎_elim, ◌^◌}
use Rattle.std.specs.List.{AllByRecursion}
use Rattle.std.specs.List.Sorted.{IsStrictlySortedBy}
use Rattle.std.proofs.lemmas.Bool.{cases_eq, cases_lt}
use Rattle.std.proofs.lemmas.Bool.Decides.{nat_tests}
use Rattle.std.proofs.lemmas.Grind.{elements, flat_map-append}
use Rattle.std.proofs.lemmas.List.Elements.{Contains-append_right}
use Rattle.std.proofs.lemmas.List.{get_or-replicate, get_or-set_other, get_or-set_same, length-replicate, set-get_or, set_split}
use Rattle.std.proofs.lemmas.Nat.{le-div, mul-add-lt}
use Rattle.std.proofs.Math.Nat.{div-mul-le_self, mul-le-mul_right}
use Rattle.base.proofs.Order.{Contains_head}
use Rattle.bar.specs.declared.bar.Bar.{Bar}
use Rattle.bar.specs.OneBar.{joined_bar, key_cmp}
use Rattle.bars.specs.Bars.{IsByKey, IsUnionOf}
use Rattle.bar_lines.specs.Grids.{AreInSlots, IsIn, bar_in, bars_in, column}
use Rattle.bars.specs.Steps.{no_bar}
use Rattle.bars.specs.Steps.{AreJoinedAlike}
use Rattle.bar_lines.specs.declared.grid.Grid.{Grid}
use Rattle.bar.proofs.OneBar.{joined_none}
use Rattle.bars.proofs.JoinedTables.{alike_parts, none_above, pair_alike, together-append, together_cons, union_from}

-- ---- the slot of a bar

equal_keys : (a b : Bar) → key_cmp a b ≡ Equal → (a.locate ≡ b.locate) × (a.start ≡ b.start)
equal_keys a b e = grind (arith, nat_tests)

-- bars of one key have one slot
same_slot : (grid : Grid) (a b : Bar) (i j : ℕ) → key_cmp a b ≡ Equal → IsIn grid a i → IsIn grid b j → i ≡ j
same_slot grid a b i j same p q =
    let keys = equal_keys a b same in
    p.is ∙ ap₂ (λ l s. (l - grid.locate) * grid.columns + column grid s) keys.0 keys.1 ∙ sym q.is

column_rises : (grid : Grid) (a b : ℕ) → a ≤ b → column grid a ≤ column grid b
column_rises grid a b h =
    let behind : a - grid.start ≤ b - grid.start = omega (arith, h) in
    let times = mul-le-mul_right grid.scale behind in
    le-div (column grid a) ((b - grid.start) * grid.scale) (2 ^ 64) (omega arith)
    (omega (arith, times, div-mul-le_self ((a - grid.start) * grid.scale) (2 ^ 64)))

row_above : (columns m n x y : ℕ) → m < n → x < columns → m * columns + x < n * columns + y
row_above columns m n x y h narrow = omega (arith, mul-add-lt m columns x n h narrow)

-- of two slots the greater one has the bar of the greater key
in_turn : (grid : Grid) (a b : Bar) (i j : ℕ) → IsIn grid a i → IsIn grid b j → i < j → key_cmp a b ≡ Less
in_turn grid a b i j p q h =
    ⊎_elim (λ low. grind (arith, nat_tests)) (λ high.
    ⊎_elim (λ above.
    let rows : b.locate - grid.locate < a.locate - grid.locate = omega (arith, above, q.locate) in
    absurd (omega (arith, row_above grid.columns _ _ _ (column grid a.start) rows q.narrow, p.is, q.is, h))) (λ level.
    let row : a.locate ≡ b.locate = omega (arith, high, level) in
    ⊎_elim (λ less. grind (arith, nat_tests)) (λ more.
    let column = column_rises grid b.start a.start more in
    let rows = ap (λ l. (l - grid.locate) * grid.columns) row in
    absurd (omega (arith, column, rows, p.is, q.is, h)))
    (cases_lt a.start b.start))
    (cases_lt b.locate a.locate))
    (cases_lt a.locate b.locate)

-- ---- the bars of slots that begin at a number

-- their bars belong to slots from this number on
abbrev AreFrom : Grid → List Bar → ℕ → List (Option ℕ) → Type 0
AreFrom grid bars first slots = (slot number : ℕ) → slot < length slots → get_or slots slot None ≡ Some number
    → (number < length bars) × IsIn grid (get_or bars number no_bar) (first + slot)

abbrev Below : Bar → List Bar → Type 0
Below bar table = AllByRecursion (λ z. key_cmp bar z ≡ Less) table

module _ (grid : Grid) (bars : List Bar) where
  behind_one : (first : ℕ) (at : Option ℕ) (slots : List (Option ℕ)) → AreFrom grid bars first (at ∷ slots) → AreFrom grid bars (first + 1) slots
  behind_one first at slots are slot number h e =
      let one = are (suc slot) number (omega (arith, h)) e in
      (one.0, subst (IsIn grid (get_or bars number no_bar)) (omega arith) one.1)

  below_later : (first : ℕ) (slots : List (Option ℕ)) → AreFrom grid bars first slots → (bar : Bar) (i : ℕ) → IsIn grid bar i → i < first
      → Below bar (bars_in bars slots)
  below_later first [] are bar i h low = tt
  below_later first (None ∷ slots) are bar i h low = below_later (first + 1) slots (behind_one first None slots are) bar i h (omega (arith, low))
  below_later first (Some number ∷ slots) are bar i h low =
      let here = are 0 number (omega arith) refl in (
        in_turn grid bar (get_or bars number no_bar) i (first + 0) h here.1 (omega (arith, low)),
        below_later (first + 1) slots (behind_one first (Some number) slots are) bar i h (omega (arith, low)),
      )

  from_by_key : (first : ℕ) (slots : List (Option ℕ)) → AreFrom grid bars first slots → IsByKey (bars_in bars slots)
  unfolding IsStrictlySortedBy
  from_by_key first [] are = tt
  from_by_key first (None ∷ slots) are = from_by_key (first + 1) slots (behind_one first None slots are)
  from_by_key first (Some number ∷ slots) are =
      let more = behind_one first (Some number) slots are in (
        below_later (first + 1) slots more (get_or bars number no_bar) (first + 0) (are 0 number (omega arith) refl).1 (omega arith),
        from_by_key (first + 1) slots more,
      )

  pub slots_by_key : (slots : List (Option ℕ)) → AreInSlots grid bars slots → IsByKey (bars_in bars slots)
  slots_by_key slots are = from_by_key 0 slots (λ slot number h e.
      let one = are slot number h e in (one.0, subst (IsIn grid (get_or bars number no_bar)) (omega arith) one.1))

-- ---- a bar put among them

moved_behind : (front rest : List Bar) (bar : Bar) → Below bar rest → AreJoinedAlike (front ++ bar ∷ rest) ((front ++ rest) ++ bar ∷ [])
moved_behind front rest bar below key =
    let none = none_above bar rest key below in grind (arith, together-append, together_cons, joined_none, none)

behind_two : (front rest : List Bar) (kept bar : Bar) → Below bar rest → AreJoinedAlike (front ++ kept ∷ bar ∷ rest) ((front ++ kept ∷ rest) ++ bar ∷ [])
behind_two front rest kept bar below key =
    rw (append_assoc front (kept ∷ []) (bar ∷ rest), append_assoc front (kept ∷ []) rest) at (moved_behind (front ++ kept ∷ []) rest bar below key)

-- slots whose bars stay as they are
unmoved : (bars new : List Bar) (slots : List (Option ℕ))
    → ((slot number : ℕ) → slot < length slots → get_or slots slot None ≡ Some number → get_or new number no_bar ≡ get_or bars number no_bar)
    → bars_in new slots ≡ bars_in bars slots
unmoved bars new [] same = refl
unmoved bars new (None ∷ slots) same = unmoved bars new slots (λ slot number h e. same (suc slot) number (omega (arith, h)) e)
unmoved bars new (Some number ∷ slots) same =
    ap₂ (λ bar more. bar ∷ more) (same 0 number (omega arith) refl)
    (unmoved bars new slots (λ slot number h e. same (suc slot) number (omega (arith, h)) e))

module _ (grid : Grid) (bars : List Bar) (slots : List (Option ℕ)) (are : AreInSlots grid bars slots) (bar : Bar) (slot : ℕ) (within : slot < length slots)
    (here : IsIn grid bar slot) where
  abbrev front : List (Option ℕ)
  front = take slot slots

  abbrev rest : List (Option ℕ)
  rest = drop (suc slot) slots

  rest_below : Below bar (bars_in bars rest)
  rest_below =
      below_later grid bars (slot + 1) rest (λ k number h e. grind (arith, elements, are (slot + 1 + k) number)) bar slot here (omega arith)

  -- the bars of the slots, where one slot has another number, and the others have their bars
  changed : (new : List Bar) (at : Option ℕ) (made : Bar) → bar_in new at ≡ made ∷ []
      → ((k number : ℕ) → k < length slots → k ≢ slot → get_or slots k None ≡ Some number → get_or new number no_bar ≡ get_or bars number no_bar)
      → bars_in new (set slots slot at) ≡ bars_in bars front ++ made ∷ bars_in bars rest
  changed new at made one same =
      let before = unmoved bars new front (λ k number h e. grind (arith, elements, same k number)) in
      let behind = unmoved bars new rest (λ k number h e. grind (arith, elements, same (slot + 1 + k) number)) in
      rw (set_split slots slot at within, flat_map-append (bar_in new) front (at ∷ rest), before)
      (ap (λ m. bars_in bars front ++ m) (ap₂ (λ a b. a ++ b) one behind))

  slots_now : (at : Option ℕ) → get_or slots slot None ≡ at → bars_in bars slots ≡ bars_in bars front ++ (bar_in bars at ++ bars_in bars rest)
  slots_now at e =
      let split : slots ≡ front ++ at ∷ rest = sym (set-get_or slots slot None) ∙ ap (set slots slot) e ∙ set_split slots slot at within in
      ap (bars_in bars) split ∙ flat_map-append (bar_in bars) front (at ∷ rest)

  pub kept_in : (number : ℕ) → get_or slots slot None ≡ Some number → Contains (bars_in bars slots) (get_or bars number no_bar)
  kept_in number e =
      let kept = get_or bars number no_bar in
      rw (slots_now (Some number) e) (Contains-append_right (bars_in bars front) (kept ∷ bars_in bars rest) kept (Contains_head kept (bars_in bars rest)))

  -- into an empty slot
  pub put_in : get_or slots slot None ≡ None → AreInSlots grid (bars ++ bar ∷ []) (set slots slot (Some (length bars)))
      × IsUnionOf (bars_in bars slots ++ bar ∷ []) (bars_in (bars ++ bar ∷ []) (set slots slot (Some (length bars))))
  put_in e =
      let new : AreInSlots grid (bars ++ bar ∷ []) (set slots slot (Some (length bars))) = λ k number h f. grind (arith, elements, are k number) in
      let made = changed (bars ++ bar ∷ []) (Some (length bars)) bar (grind (arith, elements))
      (λ k number h differs f. grind (arith, elements, are k number)) in (
        new,
        union_from _ _ (slots_by_key grid _ _ new)
            (rw (made, slots_now None e) (moved_behind (bars_in bars front) (bars_in bars rest) bar rest_below)),
      )

  -- to the bar of its slot
  pub join_in : (number : ℕ) (kept : Bar) → get_or slots slot None ≡ Some number → kept ≡ get_or bars number no_bar → key_cmp kept bar ≡ Equal
      → AreInSlots grid (set bars number (joined_bar kept bar)) slots
      × IsUnionOf (bars_in bars slots ++ bar ∷ []) (bars_in (set bars number (joined_bar kept bar)) slots)
  join_in number kept e is same =
      let joined = joined_bar kept bar in
      let new = set bars number joined in
      let known = are slot number within e in
      let keys = equal_keys kept bar same in
      let alone : (k other : ℕ) → k < length slots → get_or slots k None ≡ Some other → other ≡ number → k ≡ slot =
      λ k other h f m. same_slot grid kept bar k slot same
      (subst (λ b. IsIn grid b k) (ap (λ n. get_or bars n no_bar) m ∙ sym is) (are k other h f).1) here in
      let others : (k other : ℕ) → k < length slots → k ≢ slot → get_or slots k None ≡ Some other → get_or new other no_bar ≡ get_or bars other no_bar =
      λ k other h differs f. get_or-set_other bars number other joined no_bar (λ m. differs (alone k other h f m)) in
      let now : get_or new number no_bar ≡ joined = get_or-set_same bars number joined no_bar known.0 in
      let inside : AreInSlots grid new slots = λ k other h f. ⊎_elim
      (λ m. let there = are k other h f in grind (arith, elements, is))
      (λ differs. let there = are k other h f in grind (arith, elements))
      (cases_eq other number) in
      let made = changed new (Some number) joined (ap (λ b. b ∷ []) now) others in
      let kept_slots : set slots slot (Some number) ≡ slots = ap (set slots slot) (sym e) ∙ set-get_or slots slot None in
      let before = bars_in bars front in
      let behind = bars_in bars rest in (
        inside,
        union_from _ _ (slots_by_key grid new slots inside)
            (rw (ap (bars_in new) (sym kept_slots) ∙ made, slots_now (Some number) e, sym is)
            (λ key. alike_parts before before (joined ∷ behind) (kept ∷ bar ∷ behind) (λ key. refl)
            (alike_parts (joined ∷ []) (kept ∷ bar ∷ []) behind behind (pair_alike kept bar same) (λ key. refl)) key
            ∙ behind_two before behind kept bar rest_below key)),
      )

-- ---- no bars

pub none_in : (bars : List Bar) (n : ℕ) → bars_in bars (replicate n None) ≡ []
none_in bars zero = refl
none_in bars (suc n) = none_in bars n

pub nothing_in : (grid : Grid) (bars : List Bar) (n : ℕ) → AreInSlots grid bars (replicate n None)
nothing_in grid bars n slot number h e =
    let empty : Option ℕ = None in
    let none = get_or-replicate n slot empty empty (omega (arith, h, length-replicate n empty)) in
    absurd (grind arith)
