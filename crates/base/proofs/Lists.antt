-- Lists that std has no lemmas on: filters under filters, and permutations of what lists are joined from.
use Rattle.std.proofs.Common.{◌≡◌, ℕ, zero, suc, ◌+◌, ◌<◌, ◌≤◌, Bool, true, cond, List, [], ◌∷◌, ◌++◌, length, get_or, set, swap, Option, Some}
use Rattle.std.proofs.Common.{None, filter, filter_map, flat_map, map, option_map, option_to_list, replicate, All, IsPermutation, refl, sym, ap, ◌∙◌, arith}
use Rattle.std.proofs.Common.{append_assoc, append-nil, take}
use Rattle.std.specs.List.{list_any, concat, cons_option, range_with_len}
use Rattle.std.proofs.lemmas.List.{drop_at, flat_map_more, length-append, take_at, take_more}
use Rattle.std.proofs.lemmas.List.Elements.{All-drop, All-take, filter-append, filter_map-append}
use Rattle.std.proofs.lemmas.List.Folds.{concat-append}
use Rattle.std.proofs.lemmas.List.Sorted.{IsPermutation-refl, IsPermutation-keeps, IsPermutation-trans, IsPermutation-append_left, IsPermutation-append_right}
use Rattle.std.proofs.lemmas.List.Sorted.{IsPermutation-append_comm}

-- ---- one list is another

-- two filters change places where their tests agree on what the other keeps
pub filters_commute : {X : Type 0} (p r q : X → Bool) → ((x : X) → q x ≡ true → p x ≡ r x) → (xs : List X) → filter p (filter q xs) ≡ filter q (filter r xs)
filters_commute p r q agree [] = refl
filters_commute p r q agree (x ∷ xs) = let here = agree x in let more = filters_commute p r q agree xs in grind arith

pub filter_of_filter : {X : Type 0} (p q : X → Bool) → ((x : X) → p x ≡ true → q x ≡ true) → (xs : List X) → filter p (filter q xs) ≡ filter p xs
filter_of_filter p q implies [] = refl
filter_of_filter p q implies (x ∷ xs) = let here = implies x in let more = filter_of_filter p q implies xs in grind arith

-- where no item outside the filter passes, the filter changes no answer
pub any_of_filter : {X : Type 0} (p q : X → Bool) → ((x : X) → p x ≡ true → q x ≡ true) → (xs : List X) → list_any p (filter q xs) ≡ list_any p xs
any_of_filter p q implies [] = refl
any_of_filter p q implies (x ∷ xs) = let here = implies x in let more = any_of_filter p q implies xs in grind arith

-- two maps that agree on what a filter keeps
pub filter_map_on_filter : {X Y : Type 0} (f g : X → Option Y) (q : X → Bool) → ((x : X) → q x ≡ true → f x ≡ g x) → (xs : List X)
    → filter_map f (filter q xs) ≡ filter_map g (filter q xs)
filter_map_on_filter f g q agree [] = refl
filter_map_on_filter f g q agree (x ∷ xs) = let here = agree x in let more = filter_map_on_filter f g q agree xs in grind arith

pub filter_map_as_flat_map : {X Y : Type 0} (h : X → Option Y) (xs : List X) → filter_map h xs ≡ flat_map (λ x. option_to_list (h x)) xs
filter_map_as_flat_map h [] = refl
filter_map_as_flat_map h (x ∷ xs) = let more = filter_map_as_flat_map h xs in grind arith

-- what is made of the items that are made
pub filter_map-option_map : {X Y Z : Type 0} (f : Y → Z) (g : X → Option Y) (xs : List X) → filter_map (λ x. option_map f (g x)) xs ≡ map f (filter_map g xs)
filter_map-option_map f g [] = refl
filter_map-option_map f g (x ∷ xs) = let more = filter_map-option_map f g xs in grind arith

pub filter_map-map : {X Y Z : Type 0} (h : Y → Option Z) (f : X → Y) (xs : List X) → filter_map h (map f xs) ≡ filter_map (λ x. h (f x)) xs
filter_map-map h f [] = refl
filter_map-map h f (x ∷ xs) = ap (cons_option (h (f x))) (filter_map-map h f xs)

pub cons_nil : {X : Type 0} (o : Option X) → cons_option o [] ≡ option_to_list o
cons_nil None = refl
cons_nil (Some x) = refl

pub length-filter_map : {X Y : Type 0} (h : X → Option Y) (xs : List X) → length (filter_map h xs) ≤ length xs
length-filter_map h [] = omega arith
length-filter_map h (x ∷ xs) = let more = length-filter_map h xs in grind arith

pub filter_as_flat_map : {X : Type 0} (p : X → Bool) (xs : List X) → filter p xs ≡ flat_map (λ x. cond (p x) (x ∷ []) []) xs
filter_as_flat_map p [] = refl
filter_as_flat_map p (x ∷ xs) = let more = filter_as_flat_map p xs in grind arith

pub filter-flat_map : {A B : Type 0} (p : B → Bool) (f : A → List B) (xs : List A) → filter p (flat_map f xs) ≡ flat_map (λ x. filter p (f x)) xs
filter-flat_map p f [] = refl
filter-flat_map p f (x ∷ xs) = filter-append p (f x) (flat_map f xs) ∙ ap (λ l. filter p (f x) ++ l) (filter-flat_map p f xs)

pub filter_map-flat_map : {A B C : Type 0} (h : B → Option C) (f : A → List B) (xs : List A)
    → filter_map h (flat_map f xs) ≡ flat_map (λ x. filter_map h (f x)) xs
filter_map-flat_map h f [] = refl
filter_map-flat_map h f (x ∷ xs) = filter_map-append h (f x) (flat_map f xs) ∙ ap (λ l. filter_map h (f x) ++ l) (filter_map-flat_map h f xs)

pub flat_map_none : {X Y : Type 0} (xs : List X) → flat_map {A = Y} (λ x. []) xs ≡ []
flat_map_none [] = refl
flat_map_none (x ∷ xs) = flat_map_none xs

pub concat_push : (xs : List (List ℕ)) (x : List ℕ) → concat (xs ++ x ∷ []) ≡ concat xs ++ x
concat_push xs x = concat-append xs (x ∷ []) ∙ ap (λ l. concat xs ++ l) (append-nil x)

pub length-concat_push : (xs : List (List ℕ)) (x : List ℕ) → length (concat (xs ++ x ∷ [])) ≡ length (concat xs) + length x
length-concat_push xs x = ap length (concat_push xs x) ∙ length-append (concat xs) x

pub All-parts : {X : Type 0} (P : X → Type 0) (xs ys : List X) → All P (xs ++ ys) → All P xs × All P ys
All-parts P xs ys h = (
  rw (take_at xs ys (length xs) refl) at (All-take P (length xs) (xs ++ ys) h),
  rw (drop_at xs ys (length xs) refl) at (All-drop P (length xs) (xs ++ ys) h),
)

-- past the end, too, what is read is what all items are
pub get_or-replicate_itself : {X : Type 0} (n i : ℕ) (x : X) → get_or (replicate n x) i x ≡ x
get_or-replicate_itself zero i x = refl
get_or-replicate_itself (suc n) zero x = refl
get_or-replicate_itself (suc n) (suc i) x = get_or-replicate_itself n i x

pub range_more : (a n k : ℕ) → a + n ≡ k → range_with_len a (suc n) ≡ range_with_len a n ++ k ∷ []
range_more a zero k e = ap (λ m. m ∷ []) (omega (arith, e))
range_more a (suc n) k e = ap (λ l. a ∷ l) (range_more (a + 1) n k (omega (arith, e)))

-- ---- one list has the items of another

-- two blocks before a list, in the other order
turned : {X : Type 0} (xs ys rest : List X) → IsPermutation (xs ++ (ys ++ rest)) (ys ++ (xs ++ rest))
turned xs ys rest = rw (← append_assoc xs, ← append_assoc ys) (IsPermutation-append_left rest _ _ (IsPermutation-append_comm xs ys))

module _ {A B : Type 0} (f : A → List B) where
  -- an item takes the place of another, which comes to the front in its stead
  put_at : (xs : List A) (i : ℕ) (new d : A) → i < length xs → IsPermutation (f new ++ flat_map f xs) (f (get_or xs i d) ++ flat_map f (set xs i new))
  put_at [] i new d within = absurd (omega arith)
  put_at (x ∷ xs) zero new d within = turned (f new) (f x) (flat_map f xs)
  put_at (x ∷ xs) (suc i) new d within =
      let old = get_or xs i d in
      IsPermutation-trans _ _ _ (turned (f new) (f x) (flat_map f xs))
      (IsPermutation-trans _ _ _ (IsPermutation-append_right (f x) _ _ (put_at xs i new d (omega arith)))
      (turned (f x) (f old) (flat_map f (set xs i new))))

  -- two items take each other's place
  both_put : (xs : List A) (i j : ℕ) (d : A) → i < length xs → j < length xs
      → IsPermutation (flat_map f xs) (flat_map f (set (set xs i (get_or xs j d)) j (get_or xs i d)))
  both_put [] i j d first second = absurd (omega arith)
  both_put (x ∷ xs) (suc i) (suc j) d first second = IsPermutation-append_right (f x) _ _ (both_put xs i j d (omega arith) (omega arith))
  both_put (x ∷ xs) (suc i) zero d first second = put_at xs i x d (omega arith)
  both_put (x ∷ xs) zero (suc j) d first second = put_at xs j x d (omega arith)
  both_put (x ∷ xs) zero zero d first second = IsPermutation-refl _

  after_swap : (xs : List A) (i j : ℕ) → i < length xs → j < length xs → IsPermutation (flat_map f xs) (flat_map f (swap xs i j))
  after_swap [] i j first second = IsPermutation-refl []
  after_swap (x ∷ xs) i j first second = both_put (x ∷ xs) i j x first second

  pub IsPermutation-flat_map : (xs ys : List A) → IsPermutation xs ys → IsPermutation (flat_map f xs) (flat_map f ys)
  IsPermutation-flat_map xs =
      IsPermutation-keeps xs (λ zs. IsPermutation (flat_map f xs) (flat_map f zs)) (IsPermutation-refl _)
      (λ zs i j first second so_far. IsPermutation-trans _ _ _ so_far (after_swap zs i j first second))

pub IsPermutation-filter : {A : Type 0} (p : A → Bool) (xs ys : List A) → IsPermutation xs ys → IsPermutation (filter p xs) (filter p ys)
IsPermutation-filter p xs ys h = rw (filter_as_flat_map p xs, filter_as_flat_map p ys) (IsPermutation-flat_map _ xs ys h)

pub IsPermutation-filter_map : {A B : Type 0} (f : A → Option B) (xs ys : List A) → IsPermutation xs ys → IsPermutation (filter_map f xs) (filter_map f ys)
IsPermutation-filter_map f xs ys h = rw (filter_map_as_flat_map f xs, filter_map_as_flat_map f ys) (IsPermutation-flat_map _ xs ys h)

-- what two maps give item after item, and what the one gives of all items and then the other
pub IsPermutation-both : {A B : Type 0} (f g : A → List B) (xs : List A) → IsPermutation (flat_map (λ x. f x ++ g x) xs) (flat_map f xs ++ flat_map g xs)
IsPermutation-both f g [] = IsPermutation-refl []
IsPermutation-both f g (x ∷ xs) =
    let more = IsPermutation-append_right (f x ++ g x) _ _ (IsPermutation-both f g xs) in
    let turned = IsPermutation-append_right (f x) _ _ (IsPermutation-append_left (flat_map g xs) _ _ (IsPermutation-append_comm (g x) (flat_map f xs))) in
    IsPermutation-trans _ _ _ more (rw (append_assoc (f x) (g x), ← append_assoc (g x), append_assoc (f x) (flat_map f xs), ← append_assoc (flat_map f xs))
    turned)

-- one item more, and the next one that a loop takes
pub flat_map_push : {X Y : Type 0} (f : X → List Y) (xs : List X) (x : X) → flat_map f (xs ++ x ∷ []) ≡ flat_map f xs ++ f x
flat_map_push f xs x = sym (flat_map_more f [] xs x)

pub flat_map_next : {X Y : Type 0} (f : X → List Y) (xs : List X) (i : ℕ) (d : X) → i < length xs
    → flat_map f (take (i + 1) xs) ≡ flat_map f (take i xs) ++ f (get_or xs i d)
flat_map_next f xs i d h = ap (flat_map f) (take_more xs i d h) ∙ flat_map_push f (take i xs) (get_or xs i d)
