-- The messages that count: of joined lists, of a moment that none is past, by place, and how few of them are trades.
use Rattle.std.proofs.Common.{◌≡◌, ◌≤◌, ℕ, Bool, true, cond, List, [], ◌∷◌, ◌++◌, All, length, Option, None, filter, filter_map, flat_map, refl, ap, arith, ◌<◌}
use Rattle.std.proofs.Common.{◌+◌, ◌*◌, ◌^◌, Some}
use Rattle.std.specs.Ordering.{nat_cmp}
use Rattle.std.proofs.lemmas.List.Elements.{All-tail, filter-append}
use Rattle.std.proofs.lemmas.List.Kept.{IsStrictlySortedBy-filter}
use Rattle.base.proofs.Lists.{filter-flat_map}
use Rattle.day_rows.specs.DayRows.{AreByPlace}
use Rattle.day_rows.specs.Messages.{Placed, counted, is_counted, placed_at, messages_of, execution_at, own_priced_at, executions, own_priced_sales}
use Rattle.std.proofs.lemmas.Bool.{cond_both}
use Rattle.std.specs.List.{cons_option}
use Rattle.itch_messages.specs.Body.{is_whole, kind_of, message_of_kind}
use Rattle.itch_messages.specs.Layout.{length_of}
use Rattle.itch_messages.specs.declared.message.Message.TheVariants.{Skipped}
use Rattle.itch_messages.proofs.NineTypes.{whole_of_test}
use Rattle.day_file.specs.Frames.{PlacedBody, StandsFrom, spelling}
use Rattle.day_file.proofs.Readings.{length-spelling}

pub counted-append : (as_of : Option ℕ) (one other : List Placed) → counted as_of (one ++ other) ≡ counted as_of one ++ counted as_of other
counted-append as_of one other = filter-append (λ (m : Placed). is_counted as_of m.message) one other

pub counted-parts : (as_of : Option ℕ) (parts : List (List Placed))
    → counted as_of (flat_map (λ part. part) parts) ≡ flat_map (λ part. counted as_of part) parts
counted-parts as_of parts = filter-flat_map (λ (m : Placed). is_counted as_of m.message) (λ part. part) parts

-- where none is past the moment
pub counted-all : (as_of : Option ℕ) (messages : List Placed) → All (λ m. is_counted as_of m.message ≡ true) messages → counted as_of messages ≡ messages
counted-all as_of [] all = refl
counted-all as_of (m ∷ ms) all =
    rw (all 0 m (omega arith)) (ap (λ l. m ∷ l) (counted-all as_of ms (All-tail (λ (m : Placed). is_counted as_of m.message ≡ true) m ms all)))

-- without a moment
pub counted-none : (messages : List Placed) → counted None messages ≡ messages
counted-none messages = counted-all None messages (λ k d h. refl)

pub ruleset counted_laws = (counted-append, counted-parts, counted-none)

-- they stand by place where all do
pub counted_by_place : (as_of : Option ℕ) (messages : List Placed) → AreByPlace messages → AreByPlace (counted as_of messages)
counted_by_place as_of messages up =
    IsStrictlySortedBy-filter (λ (a b : Placed). nat_cmp a.place b.place) (λ m. is_counted as_of m.message) messages up

-- ---- they give no more rows than all

fewer_more : {X Y : Type 0} (give : X → Option Y) (x : X) (b : Bool) (some xs : List X) → length (filter_map give some) ≤ length (filter_map give xs)
    → length (filter_map give (cond b (x ∷ some) some)) ≤ length (filter_map give (x ∷ xs))
fewer_more give x b some xs h = grind arith

pub fewer_of_filter : {X Y : Type 0} (give : X → Option Y) (p : X → Bool) (xs : List X) → length (filter_map give (filter p xs)) ≤ length (filter_map give xs)
fewer_of_filter give p [] = omega arith
fewer_of_filter give p (x ∷ xs) = fewer_more give x (p x) (filter p xs) xs (fewer_of_filter give p xs)

-- ---- a file of the greatest length has room for fewer than 2 ^ 31 trades: each takes 33 bytes of it or more

-- how many executions and sales with a price of their own messages give
abbrev trades_of : List Placed → ℕ
trades_of messages = length (executions messages) + length (own_priced_sales messages)

trades_more : (place kind wanted : ℕ) (body : List ℕ) (later : List Placed) → length_of kind ≡ Some wanted
    → trades_of (cons_option (placed_at place (message_of_kind kind body)) later) * 33 ≤ trades_of later * 33 + wanted + 2
unfolding length_of message_of_kind
trades_more place kind wanted body later known = grind arith

room : (frames : List PlacedBody) → trades_of (messages_of frames) * 33 ≤ length (spelling frames)
room [] = omega arith
room (frame ∷ frames) =
    let body = frame.body in
    let later = messages_of frames in
    let here = cond_both (is_whole body) (message_of_kind (kind_of body) body) Skipped
    (λ message. trades_of (cons_option (placed_at frame.place message) later) * 33 ≤ trades_of later * 33 + length body + 2)
    (λ whole. trades_more frame.place (kind_of body) (length body) body later (whole_of_test body whole)) (λ _. omega arith) in
    omega (arith, here, room frames, length-spelling frame frames)

-- so a file has few of them, and no more that count; nor does a part of it
pub few_trades : {start : ℕ} (as_of : Option ℕ) (bytes : List ℕ) (frames : List PlacedBody) → StandsFrom start frames bytes → length bytes ≤ 2 ^ 36
    → length (executions (counted as_of (messages_of frames))) + length (own_priced_sales (counted as_of (messages_of frames))) < 2 ^ 31
few_trades as_of bytes frames stands within =
    let first = fewer_of_filter (λ (m : Placed). execution_at m.place m.message) (λ m. is_counted as_of m.message) (messages_of frames) in
    let second = fewer_of_filter (λ (m : Placed). own_priced_at m.place m.message) (λ m. is_counted as_of m.message) (messages_of frames) in
    omega (arith, room frames, first, second, ap length stands.whole, within)
