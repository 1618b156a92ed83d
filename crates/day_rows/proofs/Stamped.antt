-- The times of what is listed fit six bytes, and its locates two, since those of the rows do.
use Rattle.std.proofs.Common.{◌≡◌, ℕ, Bool, List, ◌++◌, All, Option, Some, Contains, filter_map, IsPermutation, arith, sym, ap, subst}
use Rattle.std.proofs.lemmas.List.Elements.{All-append, All-contains, All-contains_itself, All-filter, All-weaker, All-from_recursion}
use Rattle.std.proofs.lemmas.List.Sorted.{All-permutation}
use Rattle.base.proofs.Order.{Contains-from_filter_map}
use Rattle.row_types.specs.declared.order.OrderRow.{OrderRow}
use Rattle.row_types.specs.declared.trade.Execution.{Execution}
use Rattle.row_types.specs.declared.trade.Sale.{Sale}
use Rattle.probe.specs.Pricing.{sale_of, priced}
use Rattle.probe.specs.Selection.{is_kept, kept}
use Rattle.day_rows.specs.DayRows.{IsStamped, AreStamped, rows_of}
use Rattle.itch_messages.specs.Body.{message_of}
use Rattle.base.specs.Among.{AreBytes}
use Rattle.itch_messages.specs.declared.message.Message.{Message}
use Rattle.itch_messages.proofs.Laws.{FitsMessage, FitsMessage-message_of}
use Rattle.day_file.specs.Frames.{PlacedBody, StandsFor}
use Rattle.day_file.proofs.Laws.{bodies_are_bytes}
use Rattle.day_rows.specs.Messages.{Placed, counted, execution_at, is_counted, messages_of, own_priced_at, placed_at}
use Rattle.day_rows.proofs.RowsByPlace.{placed_is}

-- what is made of items that have a property
pub All-filter_map : {X Y : Type 0} (h : X → Option Y) (P : X → Type 0) (Q : Y → Type 0) → ((x : X) (y : Y) → P x → h x ≡ Some y → Q y) → (xs : List X)
    → All P xs → All Q (filter_map h xs)
All-filter_map h P Q gives xs all =
    All-weaker (Contains (filter_map h xs)) Q
    (λ y c. let of = Contains-from_filter_map h xs y c in gives of.0 y (All-contains P xs of.0 all of.1) of.2) _ (All-contains_itself _)

priced_stamped : (rows : List OrderRow) (e : Execution) (s : Sale) → IsStamped e.time e.locate → sale_of rows e ≡ Some s → IsStamped s.time s.locate
priced_stamped rows e s fits is = grind arith

-- of all that may be listed
pub fits_all : (rows : List OrderRow) (all : List Execution) (own : List Sale) → All (λ e. IsStamped e.time e.locate) all
    → All (λ s. IsStamped s.time s.locate) own → All (λ s. IsStamped s.time s.locate) (priced rows all ++ own)
fits_all rows all own first second =
    All-append (λ (s : Sale). IsStamped s.time s.locate) (priced rows all) own
    (All-filter_map (sale_of rows) (λ (e : Execution). IsStamped e.time e.locate) (λ (s : Sale). IsStamped s.time s.locate) (priced_stamped rows) all first)
    second

-- so of what is kept of them, in whatever order
pub fits_listing : (breaks : List ℕ) (selection : Sale → Bool) (every listing : List Sale)
    → All (λ s. IsStamped s.time s.locate) every → IsPermutation (kept breaks selection every) listing → All (λ s. IsStamped s.time s.locate) listing
fits_listing breaks selection every listing fit permutation =
    All-permutation (λ (s : Sale). IsStamped s.time s.locate) _ listing permutation
    (All-filter (is_kept breaks selection) (λ (s : Sale). IsStamped s.time s.locate) every fit)

-- ---- the times of the messages of a file fit six bytes and their locates two, since they are read from so many

execution_stamped : (place : ℕ) (message : Message) (e : Execution) → FitsMessage message → execution_at place message ≡ Some e → IsStamped e.time e.locate
execution_stamped place message e fits is = grind arith

own_stamped : (place : ℕ) (message : Message) (s : Sale) → FitsMessage message → own_priced_at place message ≡ Some s → IsStamped s.time s.locate
own_stamped place message s fits is = grind arith

-- the rows of the messages of bytes
pub stamped_rows : (as_of : Option ℕ) (bytes : List ℕ) (frames : List PlacedBody) → AreBytes bytes → StandsFor frames bytes
    → AreStamped (rows_of (counted as_of (messages_of frames)))
stamped_rows as_of bytes frames are stands =
    let fits = All-filter (λ (m : Placed). is_counted as_of m.message) (λ m. FitsMessage m.message) (messages_of frames)
    (All-filter_map (λ (f : PlacedBody). placed_at f.place (message_of f.body)) (λ f. AreBytes f.body) (λ (m : Placed). FitsMessage m.message)
    (λ f m are is. subst FitsMessage (sym (ap (λ (m : Placed). m.message) (placed_is f.place (message_of f.body) m is))) (FitsMessage-message_of f.body are))
    frames (All-from_recursion (λ (f : PlacedBody). AreBytes f.body) frames (bodies_are_bytes bytes frames are stands))) in
    record {
      executions = All-filter_map (λ (m : Placed). execution_at m.place m.message) (λ m. FitsMessage m.message) (λ (e : Execution). IsStamped e.time e.locate)
          (λ m e. execution_stamped m.place m.message e) _ fits;
      own_priced = All-filter_map (λ (m : Placed). own_priced_at m.place m.message) (λ m. FitsMessage m.message) (λ (s : Sale). IsStamped s.time s.locate)
          (λ m s. own_stamped m.place m.message s) _ fits;
    }
