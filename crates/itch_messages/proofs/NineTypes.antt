-- The nine types, and what a body is by its type.
use Rattle.std.proofs.Common.{◌≡◌, ℕ, true, false, List, length, Some, refl, arith}
use Rattle.std.proofs.lemmas.Bool.{eqb-true, eq-eqb}
use Rattle.itch_messages.specs.Body.{has_wrong_length, is_skipped, is_whole, kind_of, message_of, message_of_kind}
use Rattle.itch_messages.specs.Layout.{length_of}
use Rattle.itch_messages.specs.declared.message.Message.TheVariants.{Skipped}

-- what holds of each of the nine types and its length holds of a type that is read
pub by_kind : (P : ℕ → ℕ → Type 0) → P 65 36 → P 70 40 → P 69 31 → P 67 36 → P 85 35 → P 80 44 → P 81 40 → P 66 19 → P 82 39
    → (kind wanted : ℕ) → length_of kind ≡ Some wanted → P kind wanted
unfolding length_of
by_kind P a f e c u p q b r kind wanted found = grind (arith, eqb-true)

-- a body with its type's length stands for the message of its type
pub message_of_whole : (body : List ℕ) → length_of (kind_of body) ≡ Some (length body) → message_of body ≡ message_of_kind (kind_of body) body
message_of_whole body whole = rw (whole, eq-eqb (length body) (length body) refl) refl

-- a body that passes the test of the table has its type's length
pub whole_of_test : (body : List ℕ) → is_whole body ≡ true → length_of (kind_of body) ≡ Some (length body)
whole_of_test body passes = grind arith

-- a body that stands for a message has its type's length
pub whole_of_message : (body : List ℕ) → is_skipped (message_of body) ≡ false → length_of (kind_of body) ≡ Some (length body)
whole_of_message body read = grind arith

-- a body of a wrong length stands for no message
pub skipped_of_wrong_length : (body : List ℕ) → has_wrong_length body ≡ true → message_of body ≡ Skipped
skipped_of_wrong_length body wrong = grind arith
