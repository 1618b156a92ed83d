-- The message that a body is.
-- To be believed.
use Rattle.std.specs.Prelude.{◌≡◌, ◌==◌, ℕ, Bool, true, false, not, if◌then◌else◌, List, length, slice_index, Option, None, Some, unwrap_or}
use Rattle.std.specs.Option.{option_map_or}
use Rattle.itch_messages.specs.Layout.{HeaderFields, bytes_at, length_of, number_at}
use Rattle.itch_messages.specs.declared.layout.LengthFault.{LengthFault}
use Rattle.itch_messages.specs.declared.message.Add.{Add as AddMessage}
use Rattle.itch_messages.specs.declared.message.Message.{Message}
use Rattle.itch_messages.specs.declared.message.Message.TheVariants.{Add, Executed, ExecutedAt, Replace, Trade, Cross, Broken, Directory, Skipped}

-- a body's type: its first byte, and 0, which is no type, for the empty body
abbrev pub kind_of : List ℕ → ℕ
kind_of body = slice_index body 0

-- a body of one of the nine types with that type's length
abbrev pub is_whole : List ℕ → Bool
is_whole body = option_map_or (λ wanted. length body == wanted) (length_of (kind_of body)) false

-- a body of one of the nine types with another length
abbrev pub has_wrong_length : List ℕ → Bool
has_wrong_length body = option_map_or (λ wanted. not (length body == wanted)) (length_of (kind_of body)) false

-- what is reported of a wrong length
abbrev pub length_fault_of : List ℕ → LengthFault
length_fault_of body = record {
  kind = kind_of body;
  length = length body;
  wanted = unwrap_or (length_of (kind_of body)) 0;
}

-- the header of a body
abbrev pub header_of : List ℕ → HeaderFields
header_of body = record {
  locate = number_at 1 2 body;
  tracking = number_at 3 2 body;
  time = number_at 5 6 body;
}

-- the fields of a body of type A or F, with what it has of an attribution
abbrev pub add_of : Option (List ℕ) → List ℕ → AddMessage
add_of attribution body = record {
  header = header_of body;
  order_no = number_at 11 8 body;
  side = number_at 19 1 body;
  shares = number_at 20 4 body;
  stock = bytes_at 24 8 body;
  price = number_at 32 4 body;
  attribution = attribution;
}

-- the message of a whole body, by its type: the type's fields at their offsets
unfoldable pub message_of_kind : ℕ → List ℕ → Message
message_of_kind kind body =
    if kind == 65 then Add (add_of None body) else  -- A
    if kind == 70 then Add (add_of (Some (bytes_at 36 4 body)) body) else  -- F
    if kind == 69 then Executed (record {  -- E
      header = header_of body;
      order_no = number_at 11 8 body;
      shares = number_at 19 4 body;
      trade_no = number_at 23 8 body;
    }) else
    if kind == 67 then ExecutedAt (record {  -- C
      header = header_of body;
      order_no = number_at 11 8 body;
      shares = number_at 19 4 body;
      trade_no = number_at 23 8 body;
      printable = number_at 31 1 body;
      price = number_at 32 4 body;
    }) else
    if kind == 85 then Replace (record {  -- U
      header = header_of body;
      old_no = number_at 11 8 body;
      new_no = number_at 19 8 body;
      shares = number_at 27 4 body;
      price = number_at 31 4 body;
    }) else
    if kind == 80 then Trade (record {  -- P
      header = header_of body;
      order_no = number_at 11 8 body;
      side = number_at 19 1 body;
      shares = number_at 20 4 body;
      stock = bytes_at 24 8 body;
      price = number_at 32 4 body;
      trade_no = number_at 36 8 body;
    }) else
    if kind == 81 then Cross (record {  -- Q
      header = header_of body;
      shares = number_at 11 8 body;
      stock = bytes_at 19 8 body;
      price = number_at 27 4 body;
      trade_no = number_at 31 8 body;
      cross_type = number_at 39 1 body;
    }) else
    if kind == 66 then Broken (record { header = header_of body; trade_no = number_at 11 8 body }) else  -- B
    if kind == 82 then Directory (record {  -- R
      header = header_of body;
      stock = bytes_at 11 8 body;
      rest = bytes_at 19 20 body;
    }) else Skipped

-- the message that a body is: its type's fields at their offsets; `Skipped` for the empty body, another type or a
-- wrong length. No two bodies are one message other than that (`one_body_each`), and `append` writes a message's body.
abbrev pub message_of : List ℕ → Message
message_of body = if is_whole body then message_of_kind (kind_of body) body else Skipped

-- whether a message is `Skipped`
abbrev pub is_skipped : Message → Bool
is_skipped Skipped = true
is_skipped _ = false

-- a message's time, in nanoseconds since midnight: that of its header (section 1); what is skipped has none
abbrev pub time_of_message : Message → Option ℕ
time_of_message (Add m) = Some m.header.time
time_of_message (Executed m) = Some m.header.time
time_of_message (ExecutedAt m) = Some m.header.time
time_of_message (Replace m) = Some m.header.time
time_of_message (Trade m) = Some m.header.time
time_of_message (Cross m) = Some m.header.time
time_of_message (Broken m) = Some m.header.time
time_of_message (Directory m) = Some m.header.time
time_of_message Skipped = None

-- the body is read as this message
unfoldable pub IsBodyOf : Message → List ℕ → Type 0
IsBodyOf message body = message_of body ≡ message
