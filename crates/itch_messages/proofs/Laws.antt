-- The law of bodies: a message reads back from its body, and a body that is read is the one that is written for it.
use Rattle.std.proofs.Common.{◌≡◌, ◌<◌, ◌^◌, ℕ, false, List, [], ◌∷◌, ◌++◌, length, Option, None, Some, Result, Ok, Err, OnOk, is_ok, cond, refl, sym, ap}
use Rattle.std.proofs.Common.{◌∙◌, arith}
use Rattle.std.specs.List.{concat}
use Rattle.std.proofs.lemmas.Bool.{eq-eqb, eqb-true}
use Rattle.std.proofs.lemmas.List.{append_assoc, append-nil, length-append}
use Rattle.base.specs.Among.{AreBytes}
use Rattle.itch_messages.specs.Body.{IsBodyOf, has_wrong_length, is_skipped, kind_of, message_of, message_of_kind}
use Rattle.itch_messages.specs.Layout.{HeaderFields, length_of, number_bytes}
use Rattle.itch_messages.specs.declared.message.Add.{Add as AddMessage}
use Rattle.itch_messages.specs.declared.message.Message.{Message}
use Rattle.itch_messages.specs.declared.message.Message.TheVariants.{Add, Executed, ExecutedAt, Replace, Trade, Cross, Broken, Directory, Skipped}
use Rattle.itch_messages.proofs.FieldsOfBodies.{reading, writing, fitting, length-number_bytes}
use Rattle.itch_messages.proofs.NineTypes.{by_kind, message_of_whole, whole_of_message}

-- ---- the body that is written for a message: its type's byte and its fields, in the order of their offsets

abbrev headed : ℕ → HeaderFields → List (List ℕ) → List (List ℕ)
headed kind h parts = (kind ∷ []) ∷ number_bytes 2 h.locate ∷ number_bytes 2 h.tracking ∷ number_bytes 6 h.time ∷ parts

abbrev add_parts : ℕ → AddMessage → List (List ℕ) → List (List ℕ)
add_parts kind m parts = headed kind m.header
    (number_bytes 8 m.order_no ∷ number_bytes 1 m.side ∷ number_bytes 4 m.shares ∷ m.stock ∷ number_bytes 4 m.price ∷ parts)

abbrev add_with : AddMessage → Option (List ℕ) → List (List ℕ)
add_with m None = add_parts 65 m []
add_with m (Some attribution) = add_parts 70 m (attribution ∷ [])

abbrev parts_of : Message → List (List ℕ)
parts_of (Add m) = add_with m m.attribution
parts_of (Executed m) = headed 69 m.header (number_bytes 8 m.order_no ∷ number_bytes 4 m.shares ∷ number_bytes 8 m.trade_no ∷ [])
parts_of (ExecutedAt m) = headed 67 m.header
    (number_bytes 8 m.order_no ∷ number_bytes 4 m.shares ∷ number_bytes 8 m.trade_no ∷ number_bytes 1 m.printable ∷ number_bytes 4 m.price ∷ [])
parts_of (Replace m) = headed 85 m.header (number_bytes 8 m.old_no ∷ number_bytes 8 m.new_no ∷ number_bytes 4 m.shares ∷ number_bytes 4 m.price ∷ [])
parts_of (Trade m) = headed 80 m.header
    (number_bytes 8 m.order_no ∷ number_bytes 1 m.side ∷ number_bytes 4 m.shares ∷ m.stock ∷ number_bytes 4 m.price ∷ number_bytes 8 m.trade_no ∷ [])
parts_of (Cross m) = headed 81 m.header
    (number_bytes 8 m.shares ∷ m.stock ∷ number_bytes 4 m.price ∷ number_bytes 8 m.trade_no ∷ number_bytes 1 m.cross_type ∷ [])
parts_of (Broken m) = headed 66 m.header (number_bytes 8 m.trade_no ∷ [])
parts_of (Directory m) = headed 82 m.header (m.stock ∷ m.rest ∷ [])
parts_of Skipped = []

abbrev pub body_of : Message → List ℕ
body_of message = concat (parts_of message)

-- ---- each field of a message has room in its bytes

abbrev FitsHeader : HeaderFields → Type 0
FitsHeader h = (h.locate < 2 ^ 16) × (h.tracking < 2 ^ 16) × (h.time < 2 ^ 48)

abbrev FitsAttribution : Option (List ℕ) → Type 0
FitsAttribution None = Unit {0}
FitsAttribution (Some attribution) = length attribution ≡ 4

abbrev pub FitsMessage : Message → Type 0
FitsMessage (Add m) = FitsHeader m.header × (m.order_no < 2 ^ 64) × (m.side < 2 ^ 8) × (m.shares < 2 ^ 32) × (length m.stock ≡ 8) × (m.price < 2 ^ 32)
    × FitsAttribution m.attribution
FitsMessage (Executed m) = FitsHeader m.header × (m.order_no < 2 ^ 64) × (m.shares < 2 ^ 32) × (m.trade_no < 2 ^ 64)
FitsMessage (ExecutedAt m) = FitsHeader m.header × (m.order_no < 2 ^ 64) × (m.shares < 2 ^ 32) × (m.trade_no < 2 ^ 64) × (m.printable < 2 ^ 8)
    × (m.price < 2 ^ 32)
FitsMessage (Replace m) = FitsHeader m.header × (m.old_no < 2 ^ 64) × (m.new_no < 2 ^ 64) × (m.shares < 2 ^ 32) × (m.price < 2 ^ 32)
FitsMessage (Trade m) = FitsHeader m.header × (m.order_no < 2 ^ 64) × (m.side < 2 ^ 8) × (m.shares < 2 ^ 32) × (length m.stock ≡ 8) × (m.price < 2 ^ 32)
    × (m.trade_no < 2 ^ 64)
FitsMessage (Cross m) = FitsHeader m.header × (m.shares < 2 ^ 64) × (length m.stock ≡ 8) × (m.price < 2 ^ 32) × (m.trade_no < 2 ^ 64) × (m.cross_type < 2 ^ 8)
FitsMessage (Broken m) = FitsHeader m.header × (m.trade_no < 2 ^ 64)
FitsMessage (Directory m) = FitsHeader m.header × (length m.stock ≡ 8) × (length m.rest ≡ 20)
FitsMessage Skipped = Unit {0}

-- ---- a message reads back from its body

ruleset sizes = (length-append, length-number_bytes)

-- a message whose body has its type's length and reads as it
back : (message : Message) (size : ℕ) → length_of (kind_of (body_of message)) ≡ Some size → length (body_of message) ≡ size
    → message_of_kind (kind_of (body_of message)) (body_of message) ≡ message → message_of (body_of message) ≡ message
back message size known long reads = grind (arith, eq-eqb)

-- an add order, with an attribution or without
add_back : (m : AddMessage) (attribution : Option (List ℕ)) → let message = Add (record m { attribution = attribution }) in FitsMessage message
    → message_of (body_of message) ≡ message
unfolding length_of message_of_kind
add_back m None room = back (Add (record m { attribution = None })) 36 refl (simp (sizes, room.4)) (search (reading, room.4))
add_back m (Some four) room = back (Add (record m { attribution = Some four })) 40 refl (simp (sizes, room.4, room.6)) (search (reading, room.4, room.6))

reads_back : (message : Message) → FitsMessage message → is_skipped message ≡ false → message_of (body_of message) ≡ message
unfolding length_of message_of_kind
reads_back (Add m) room one = add_back m m.attribution room
reads_back (Executed m) room one = back (Executed m) 31 refl (simp sizes) (search reading)
reads_back (ExecutedAt m) room one = back (ExecutedAt m) 36 refl (simp sizes) (search reading)
reads_back (Replace m) room one = back (Replace m) 35 refl (simp sizes) (search reading)
reads_back (Trade m) room one = back (Trade m) 44 refl (simp (sizes, room.4)) (search (reading, room.4))
reads_back (Cross m) room one = back (Cross m) 40 refl (simp (sizes, room.2)) (search (reading, room.2))
reads_back (Broken m) room one = back (Broken m) 19 refl (simp sizes) (search reading)
reads_back (Directory m) room one = back (Directory m) 39 refl (simp (sizes, room.1, room.2)) (search (reading, room.1, room.2))
reads_back Skipped room one = absurd (cc)

pub reads : (message : Message) (body : List ℕ) → FitsMessage message → is_skipped message ≡ false → body ≡ body_of message → IsBodyOf message body
unfolding IsBodyOf
reads message body room one is = ap message_of is ∙ reads_back message room one

pub ruleset drafts = (reads, append_assoc, append-nil)

-- ---- what is read fits, and is written as it stood

-- what is read of a body by a type and its length has room in its fields
abbrev FitsAs : ℕ → ℕ → Type 0
FitsAs kind wanted = (body : List ℕ) → AreBytes body → length body ≡ wanted → FitsMessage (message_of_kind kind body)

-- the message that is read of a whole body has room in its fields
FitsMessage-message_of_kind : (kind : ℕ) (body : List ℕ) → AreBytes body → length_of kind ≡ Some (length body) → FitsMessage (message_of_kind kind body)
unfolding message_of_kind
FitsMessage-message_of_kind kind body are known =
    by_kind FitsAs (search fitting) (search fitting) (search fitting) (search fitting) (search fitting) (search fitting) (search fitting) (search fitting)
    (search fitting) kind (length body) known body are refl

-- what a body stands for has room in its fields
pub FitsMessage-message_of : (body : List ℕ) → AreBytes body → FitsMessage (message_of body)
FitsMessage-message_of body are = grind (arith, FitsMessage-message_of_kind, eqb-true)

-- a body of a type and its length is the one that is written for its message
abbrev WritesBackAs : ℕ → ℕ → Type 0
WritesBackAs kind wanted = (body : List ℕ) → AreBytes body → kind_of body ≡ kind → length body ≡ wanted → body_of (message_of_kind kind body) ≡ body

-- a body that stands for a message is the one that is written for it
writes_back : (body : List ℕ) → AreBytes body → is_skipped (message_of body) ≡ false → body ≡ body_of (message_of body)
unfolding message_of_kind
writes_back body are one =
    let whole = whole_of_message body one in
    let back = by_kind WritesBackAs (search writing depth 20) (search writing depth 20) (search writing depth 20) (search writing depth 20)
    (search writing depth 20) (search writing depth 20) (search writing depth 20) (search writing depth 20) (search writing depth 20)
    (kind_of body) (length body) whole body are refl refl in
    sym back ∙ ap body_of (sym (message_of_whole body whole))

pub one_body : (one other : List ℕ) → AreBytes one → AreBytes other → is_skipped (message_of one) ≡ false → message_of one ≡ message_of other → one ≡ other
one_body one other are bytes some same =
    writes_back one are some ∙ ap body_of same ∙ sym (writes_back other bytes (ap is_skipped (sym same) ∙ some))

pub read_is_whole : (body : List ℕ) → is_skipped (message_of body) ≡ false → has_wrong_length body ≡ false
read_is_whole body read = grind (arith, whole_of_message, eq-eqb)

-- a body was appended, or refused
pub appended : {T E : Type 0} (message : Message) (body old new : List ℕ) (r : Result T E) → IsBodyOf message body
    → new ≡ cond (is_ok r) (old ++ body) old → OnOk r ((body : List ℕ) × IsBodyOf message body × (new ≡ old ++ body))
appended message body old new (Ok x) is e = (body, is, e)
appended message body old new (Err x) is e = tt
