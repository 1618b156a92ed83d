-- The rows of frames, frame after frame, and the first wrong length.
use Rattle.std.proofs.Common.{◌≡◌, ℕ, ltb, Bool, true, false, List, [], ◌∷◌, ◌++◌, Option, Some, filter, option_to_list, refl, sym, ap, ◌∙◌, arith, Less}
use Rattle.std.specs.List.{AllByRecursion, best_of}
use Rattle.std.specs.List.Sorted.{IsStrictlySortedBy}
use Rattle.std.specs.Ordering.{nat_cmp}
use Rattle.std.proofs.lemmas.Bool.Decides.{nat_tests}
use Rattle.std.proofs.lemmas.List.Elements.{All-filter, All-from_recursion, All-weaker, filter-append, filter_map-append, recursion_from_All}
use Rattle.itch_messages.specs.Body.{message_of, has_wrong_length}
use Rattle.itch_messages.specs.declared.message.Message.{Message}
use Rattle.day_file.specs.Frames.{PlacedBody}
use Rattle.base.proofs.Lists.{cons_nil}
use Rattle.day_rows.specs.Messages.{counted, placed_at, messages_of, first_wrong}
use Rattle.day_rows.specs.DayRows.{counted_rows_at, joined, rows_of}
use Rattle.day_rows.proofs.CountedMessages.{counted-append}
use Rattle.day_rows.proofs.JoinedRows.{rows_of-append}

messages_more : (front : List PlacedBody) (frame : PlacedBody) → messages_of (front ++ frame ∷ []) ≡
    messages_of front ++ option_to_list (placed_at frame.place (message_of frame.body))
messages_more front frame =
    filter_map-append (λ (f : PlacedBody). placed_at f.place (message_of f.body)) front (frame ∷ [])
    ∙ ap (λ l. messages_of front ++ l) (cons_nil (placed_at frame.place (message_of frame.body)))

-- the rows of one message
counted_once : (as_of : Option ℕ) (place : ℕ) (message : Message)
    → rows_of (counted as_of (option_to_list (placed_at place message))) ≡ counted_rows_at as_of place message
counted_once as_of place message = grind arith

-- the rows of one frame more
pub rows_more : (as_of : Option ℕ) (front : List PlacedBody) (frame : PlacedBody) → rows_of (counted as_of (messages_of (front ++ frame ∷ [])))
    ≡ joined (rows_of (counted as_of (messages_of front))) (counted_rows_at as_of frame.place (message_of frame.body))
rows_more as_of front frame =
    let next = option_to_list (placed_at frame.place (message_of frame.body)) in
    ap (λ ms. rows_of (counted as_of ms)) (messages_more front frame) ∙ ap rows_of (counted-append as_of (messages_of front) next)
    ∙ rows_of-append (counted as_of (messages_of front)) (counted as_of next)
    ∙ ap (joined (rows_of (counted as_of (messages_of front)))) (counted_once as_of frame.place (message_of frame.body))

-- ---- the frames whose length is wrong

pub right_length : (b : Bool) → (b ≡ true → false ≡ true) → b ≡ false
right_length b never = elim b as (λ c. (c ≡ true → false ≡ true) → c ≡ false) [ true ↦ λ h. sym (h refl) | false ↦ λ h. refl ] never

-- those of one frame more
pub wrong_more : (front : List PlacedBody) (frame : PlacedBody) → filter (λ f. has_wrong_length f.body) front ≡ [] → has_wrong_length frame.body ≡ false
    → filter (λ f. has_wrong_length f.body) (front ++ frame ∷ []) ≡ []
wrong_more front frame none right = rw (filter-append, none, right) refl

first_stays : {X : Type 0} (number : X → ℕ) (x : X) (xs : List X) → AllByRecursion (λ y. ltb (number y) (number x) ≡ false) xs
    → best_of (λ y best. ltb (number y) (number best)) x xs ≡ x
first_stays number x [] all = refl
first_stays number x (y ∷ ys) all = rw all.0 (first_stays number x ys all.1)

not_before : (a b : ℕ) → nat_cmp a b ≡ Less → ltb b a ≡ false
not_before a b h = grind (arith, nat_tests)

later_stay : (place : ℕ) (xs : List PlacedBody) → AllByRecursion (λ y. nat_cmp place y.place ≡ Less) xs → AllByRecursion (λ y. ltb y.place place ≡ false)
    (filter (λ f. has_wrong_length f.body) xs)
later_stay place xs all =
    recursion_from_All _ _ (All-filter (λ f. has_wrong_length f.body) (λ y. ltb y.place place ≡ false) xs
    (All-weaker (λ y. nat_cmp place y.place ≡ Less) _ (λ y. not_before place y.place) xs (All-from_recursion (λ y. nat_cmp place y.place ≡ Less) xs all)))

sorted_rest : (front : List PlacedBody) (rest : List PlacedBody) → IsStrictlySortedBy (λ a b. nat_cmp a.place b.place) (front ++ rest)
    → IsStrictlySortedBy (λ a b. nat_cmp a.place b.place) rest
unfolding IsStrictlySortedBy
sorted_rest [] rest up = up
sorted_rest (x ∷ xs) rest up = sorted_rest xs rest up.1

-- a wrong length behind frames whose lengths are right is the first
pub wrong_first : (front : List PlacedBody) (frame : PlacedBody) (rest : List PlacedBody) → filter (λ f. has_wrong_length f.body) front ≡ []
    → has_wrong_length frame.body ≡ true → IsStrictlySortedBy (λ a b. nat_cmp a.place b.place) (front ++ frame ∷ rest)
    → first_wrong (front ++ frame ∷ rest) ≡ Some frame
unfolding IsStrictlySortedBy
wrong_first front frame rest none wrong up =
    rw (filter-append, none, wrong)
    (ap Some (first_stays (λ (f : PlacedBody). f.place) frame _ (later_stay frame.place rest (sorted_rest front (frame ∷ rest) up).0)))
