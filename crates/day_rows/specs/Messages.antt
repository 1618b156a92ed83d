-- The message list of a file's frames, and the rows that messages give.
-- To be believed.
use Rattle.std.specs.Prelude.{ℕ, nat_le, ◌*◌, Bool, true, List, Option, Some, None, filter, filter_map, ◌==◌, if◌then◌else◌}
use Rattle.std.specs.Option.{option_map_or, option_and_then}
use Rattle.itch_messages.specs.Body.{message_of, has_wrong_length, time_of_message}
use Rattle.itch_messages.specs.Layout.{HeaderFields}
use Rattle.itch_messages.specs.declared.message.Message.{Message}
use Rattle.itch_messages.specs.declared.message.Message.TheVariants.{Add, Executed, ExecutedAt, Replace, Trade, Cross, Broken, Directory, Skipped}
use Rattle.day_file.specs.Frames.{PlacedBody}
use Rattle.base.specs.Least.{least_by}
use Rattle.base.specs.declared.limits.TheConstants.{NANOSECONDS}
use Rattle.row_types.specs.declared.order.OrderRow.{OrderRow}
use Rattle.row_types.specs.declared.trade.Execution.{Execution}
use Rattle.row_types.specs.declared.trade.Sale.{Sale}
use Rattle.probe.specs.Pricing.{sale_of}
use Rattle.row_types.specs.declared.trade.Kind.{Kind}
use Rattle.row_types.specs.declared.trade.Kind.TheVariants.{C, P, Q}
use Rattle.row_types.specs.declared.directory.DirectoryRow.{DirectoryRow}

-- a message, and where in the file its frame begins
pub record Placed : Type 0 where
  pub place : ℕ
  pub message : Message

-- a message with its place; what is skipped is no message
abbrev pub placed_at : ℕ → Message → Option Placed
placed_at place Skipped = None
placed_at place message = Some (record { place = place; message = message })

-- the message list: the frames that are messages, with their places, in their order, which is that of places
abbrev pub messages_of : List PlacedBody → List Placed
messages_of frames = filter_map (λ frame. placed_at frame.place (message_of frame.body)) frames

-- a message counts up to a moment, in seconds since midnight: its time is not past it. Without a moment,
-- each counts.
abbrev pub is_counted : Option ℕ → Message → Bool
is_counted None message = true
is_counted (Some moment) message =
    option_map_or (λ time. nat_le time (moment * NANOSECONDS)) (time_of_message message) true

-- the messages that count, in their order, by a filter over the whole list: the order of their times has no part in
-- it
abbrev pub counted : Option ℕ → List Placed → List Placed
counted as_of messages = filter (λ m. is_counted as_of m.message) messages

-- the frame of least place whose length is not its type's
abbrev pub first_wrong : List PlacedBody → Option PlacedBody
first_wrong frames = least_by (λ frame. frame.place) (filter (λ frame. has_wrong_length frame.body) frames)

-- an order reference is given by an add order, with or without attribution, and by a replace
abbrev pub order_row_at : ℕ → Message → Option OrderRow
order_row_at place (Add add) = Some (record { place = place; order_no = add.order_no; price = add.price })
order_row_at place (Replace replace) =
    Some (record { place = place; order_no = replace.new_no; price = replace.price })
order_row_at place _ = None

-- an execution, which its order prices
abbrev pub execution_at : ℕ → Message → Option Execution
execution_at place (Executed executed) = Some (record {
  place = place;
  time = executed.header.time;
  locate = executed.header.locate;
  order_no = executed.order_no;
  shares = executed.shares;
  trade_no = executed.trade_no;
})
execution_at place _ = None

-- the sale at this place, with the time and the locate of its header
abbrev pub sale_with : ℕ → HeaderFields → Kind → ℕ → ℕ → ℕ → Sale
sale_with place header kind price shares trade_no = record {
  place = place;
  time = header.time;
  locate = header.locate;
  kind = kind;
  price = price;
  shares = shares;
  trade_no = trade_no;
}

-- a sale with a price of its own: a printable execution with price (89 is the letter Y), a trade, a cross
abbrev pub own_priced_at : ℕ → Message → Option Sale
own_priced_at place (ExecutedAt m) =
    if m.printable == 89 then Some (sale_with place m.header C m.price m.shares m.trade_no) else None
own_priced_at place (Trade m) = Some (sale_with place m.header P m.price m.shares m.trade_no)
own_priced_at place (Cross m) = Some (sale_with place m.header Q m.price m.shares m.trade_no)
own_priced_at place _ = None

-- a break names a match number: each trade that has it is removed
abbrev pub break_of : Message → Option ℕ
break_of (Broken broken) = Some broken.trade_no
break_of _ = None

-- the row of a stock directory message
abbrev pub directory_row_at : ℕ → Message → Option DirectoryRow
directory_row_at place (Directory directory) =
    Some (record { place = place; locate = directory.header.locate; stock = directory.stock })
directory_row_at place _ = None

-- what the messages give of orders
abbrev pub order_rows : List Placed → List OrderRow
order_rows messages = filter_map (λ m. order_row_at m.place m.message) messages

-- the executions of the messages
abbrev pub executions : List Placed → List Execution
executions messages = filter_map (λ m. execution_at m.place m.message) messages

-- the sales of the messages that have a price of their own
abbrev pub own_priced_sales : List Placed → List Sale
own_priced_sales messages = filter_map (λ m. own_priced_at m.place m.message) messages

-- the match numbers that the breaks of the messages name
abbrev pub break_numbers : List Placed → List ℕ
break_numbers messages = filter_map (λ m. break_of m.message) messages

-- what the messages give of the stock directory
abbrev pub directory_rows : List Placed → List DirectoryRow
directory_rows messages = filter_map (λ m. directory_row_at m.place m.message) messages

-- the sale of a message, if it has one: an execution at the price of its order, if a message before it gives that;
-- another message at a price of its own, if it has one
abbrev pub trade_at : List OrderRow → ℕ → Message → Option Sale
trade_at rows place (Executed executed) = option_and_then (sale_of rows) (execution_at place (Executed executed))
trade_at rows place message = own_priced_at place message

-- the trades of the message list, in its order: the executions that have a price, and the sales with a price of their
-- own; those of zero shares are among them
abbrev pub trades : List Placed → List Sale
trades messages = filter_map (λ m. trade_at (order_rows messages) m.place m.message) messages
