-- The times and places of trades fit six bytes: a time is read from so many, and a place is one of a file.
use Rattle.std.proofs.Common.{◌≡◌, ℕ, ◌+◌, ◌<◌, ◌≤◌, ◌^◌, List, [], ◌∷◌, length, All, Option, Some, arith, sym, ap, subst}
use Rattle.std.proofs.lemmas.List.Elements.{All-cons, All-drop, All-filter, All-nil}
use Rattle.base.specs.Among.{AreBytes}
use Rattle.base.specs.declared.limits.TheConstants.{LONGEST_FILE, TIME_LIMIT}
use Rattle.base.proofs.Lists.{All-parts}
use Rattle.itch_messages.specs.Body.{message_of}
use Rattle.itch_messages.specs.declared.message.Message.{Message}
use Rattle.itch_messages.proofs.Laws.{FitsMessage, FitsMessage-message_of}
use Rattle.day_file.specs.Frames.{PlacedBody, StandAt, StandsFrom, frame_of, spelling}
use Rattle.day_file.proofs.Readings.{length-spelling}
use Rattle.row_types.specs.declared.trade.Execution.{Execution}
use Rattle.row_types.specs.declared.trade.Sale.{Sale}
use Rattle.day_rows.specs.Messages.{Placed, counted, execution_at, executions, is_counted, messages_of, own_priced_at, own_priced_sales, placed_at}
use Rattle.day_rows.proofs.RowsByPlace.{placed_is}
use Rattle.day_rows.proofs.Stamped.{All-filter_map}

-- ---- frames that end at a place or before it begin before it, and their bodies are bytes

abbrev Within : ℕ → PlacedBody → Type 0
Within limit frame = (frame.place < limit) × AreBytes frame.body

begin_within : (limit place : ℕ) (frames : List PlacedBody) → StandAt place frames → AreBytes (spelling frames)
    → place + length (spelling frames) ≤ limit → All (Within limit) frames
begin_within limit place [] at are within = All-nil _
begin_within limit place (frame ∷ frames) at are within =
    let size = length-spelling frame frames in
    let parts = All-parts (λ byte. byte < 256) (frame_of frame.body) (spelling frames) are in
    let body = All-drop (λ byte. byte < 256) 2 (frame_of frame.body) parts.0 in
    All-cons (Within limit) frame frames (omega (arith, at.0, size, within), body)
    (begin_within limit (place + length (frame_of frame.body)) frames at.1 parts.1 (omega (arith, size, within)))

-- ---- so do their messages, whose fields fit, since they are read from so many bytes

abbrev Fits : ℕ → Placed → Type 0
Fits limit m = (m.place < limit) × FitsMessage m.message

messages_fit : (limit : ℕ) (frames : List PlacedBody) → All (Within limit) frames → All (Fits limit) (messages_of frames)
messages_fit limit frames all =
    All-filter_map (λ (f : PlacedBody). placed_at f.place (message_of f.body)) (Within limit) (Fits limit)
    (λ f m within is. subst (Fits limit) (sym (placed_is f.place (message_of f.body) m is)) (within.0, FitsMessage-message_of f.body within.1)) frames all

execution_fits : (limit place : ℕ) (message : Message) (e : Execution) → place < limit → FitsMessage message → execution_at place message ≡ Some e
    → (e.time < TIME_LIMIT) × (e.place < limit)
execution_fits limit place message e within fits is = grind arith

own_priced_fits : (limit place : ℕ) (message : Message) (s : Sale) → place < limit → FitsMessage message → own_priced_at place message ≡ Some s
    → (s.time < TIME_LIMIT) × (s.place < limit)
own_priced_fits limit place message s within fits is = grind arith

-- and so do the trades of those that count
pub trades_fit : {start : ℕ} (as_of : Option ℕ) (bytes : List ℕ) (frames : List PlacedBody) → AreBytes bytes → StandsFrom start frames bytes
    → start + length bytes ≤ LONGEST_FILE → let messages = counted as_of (messages_of frames) in
    All (λ execution. (execution.time < TIME_LIMIT) × (execution.place < 2 ^ 48)) (executions messages)
    × All (λ sale. (sale.time < TIME_LIMIT) × (sale.place < 2 ^ 48)) (own_priced_sales messages)
trades_fit {start = start} as_of bytes frames are stands within =
    let limit = 2 ^ 48 in
    let messages = counted as_of (messages_of frames) in
    let framed = begin_within limit start frames stands.places (subst AreBytes stands.whole are) (omega (arith, within, ap length stands.whole)) in
    let fit = All-filter (λ (m : Placed). is_counted as_of m.message) (Fits limit) (messages_of frames) (messages_fit limit frames framed) in (
      All-filter_map (λ (m : Placed). execution_at m.place m.message) (Fits limit) (λ (e : Execution). (e.time < TIME_LIMIT) × (e.place < limit))
          (λ m e fits. execution_fits limit m.place m.message e fits.0 fits.1) messages fit,
      All-filter_map (λ (m : Placed). own_priced_at m.place m.message) (Fits limit) (λ (s : Sale). (s.time < TIME_LIMIT) × (s.place < limit))
          (λ m s fits. own_priced_fits limit m.place m.message s fits.0 fits.1) messages fit,
    )
