use Rattle.std.proofs.Common.{◌≡◌, ℕ, ◌<◌, Bool, true, false, cond, [], ◌∷◌, ◌++◌, Option, Some, None, option_to_list, filter_map, refl, sym, ap, ap₂, ◌∙◌, rules, subst}
use Rattle.std.specs.List.{cons_option}
use Rattle.std.proofs.lemmas.List.{append-nil}
use Rattle.std.proofs.lemmas.List.Elements.{filter_map-append}
use Rattle.base.proofs.Least.{least_more}
use Rattle.base.specs.Least.{least_by}
use Rattle.itch_messages.proofs.NineTypes.{skipped_of_wrong_length}
use Rattle.itch_messages.specs.Body.{has_wrong_length, length_fault_of, message_of}
use Rattle.itch_messages.specs.declared.message.Message.{Message}
use Rattle.itch_messages.specs.declared.message.Message.TheVariants.{Skipped}
use Rattle.day_file.specs.Frames.{PlacedBody}
use Rattle.day_rows.proofs.JoinedRows.{joined_none}
use Rattle.day_rows.proofs.RowsOfFrames.{right_length, rows_more}
use Rattle.day_rows.specs.DayRows.{DayRows, counted_rows_at, joined, no_rows, rows_of}
use Rattle.day_rows.specs.Messages.{counted, messages_of}
use Rattle.morsel_rows.specs.Partitions.{MorselRowsView, in_partitions}
use Rattle.scanning.specs.Scans.{ScanView, TakesIn, wrong_at, wrong_in}
use Rattle.scanning.specs.declared.wrong.WrongLength.{WrongLength}
use Rattle.std.proofs.lemmas.List.Sorted.{answers_always}
use Rattle.day_file.specs.Placed.{placed_body}
use Rattle.scanning.proofs.open_scan.OpenScan.take_in_kind.Goals as goal

-- ---- what a scan has found so far, and with one frame more

-- one message more, as it is added to rows in partitions
abbrev AddsCounted : Option ℕ → ℕ → Message → MorselRowsView → MorselRowsView → Type 0
AddsCounted as_of place message old new =
    (n : ℕ) (rows : DayRows) → 0 < n → old ≡ in_partitions n rows
    → new ≡ in_partitions n (joined rows (counted_rows_at as_of place message))

-- what is told of a frame, where its length is wrong or right
abbrev told_by_test : PlacedBody → Bool → Option WrongLength
told_by_test frame wrong = cond wrong (Some (record { place = frame.place; fault = length_fault_of frame.body })) None

-- a frame of a right length
reads : (as_of : Option ℕ) (frame : PlacedBody) (old new : MorselRowsView) (wrong : Option WrongLength) → has_wrong_length frame.body ≡ false
    → AddsCounted as_of frame.place (message_of frame.body) old new
    → TakesIn as_of (frame ∷ []) (record { rows = old; wrong = wrong }) (record { rows = new; wrong = wrong })
reads as_of frame old new wrong right adds n front some most so_far =
    let rows = adds n (rows_of (counted as_of (messages_of front))) some (ap (λ (scan : ScanView). scan.rows) so_far)
    ∙ ap (in_partitions n) (sym (rows_more as_of front frame)) in
    let none : wrong_in (front ++ frame ∷ []) ≡ wrong_in front = ap (least_by (λ (w : WrongLength). w.place))
    (filter_map-append wrong_at front (frame ∷ []) ∙ ap (λ b. filter_map wrong_at front ++ cons_option (told_by_test frame b) []) right
    ∙ append-nil (filter_map wrong_at front)) in
    let same = ap (λ (scan : ScanView). scan.wrong) so_far ∙ sym none in
    λ i. record { rows = rows i; wrong = same i }

-- what is skipped gives no rows
none_of_skipped : (as_of : Option ℕ) (place : ℕ) → counted_rows_at as_of place Skipped ≡ no_rows
none_of_skipped None place = refl
none_of_skipped (Some moment) place = refl

-- a frame of a wrong length
passes : (as_of : Option ℕ) (frame : PlacedBody) (rows : MorselRowsView) (wrong next : Option WrongLength) (told : WrongLength)
    → has_wrong_length frame.body ≡ true → told ≡ record { place = frame.place; fault = length_fault_of frame.body }
    → next ≡ least_by (λ w. w.place) (option_to_list wrong ++ told ∷ [])
    → TakesIn as_of (frame ∷ []) (record { rows = rows; wrong = wrong }) (record { rows = rows; wrong = next })
passes as_of frame rows wrong next told is told_is later n front some most so_far =
    let so_many = rows_of (counted as_of (messages_of front)) in
    let no_more : rows_of (counted as_of (messages_of (front ++ frame ∷ []))) ≡ so_many =
    rows_more as_of front frame ∙ ap (λ message. joined so_many (counted_rows_at as_of frame.place message)) (skipped_of_wrong_length frame.body is)
    ∙ ap (joined so_many) (none_of_skipped as_of frame.place) ∙ joined_none so_many in
    let tells : Some told ≡ wrong_at frame = ap Some told_is ∙ sym (ap (told_by_test frame) is) in
    let same = ap (λ (scan : ScanView). scan.rows) so_far ∙ ap (in_partitions n) (sym no_more) in
    let least = later ∙ ap₂ (λ one other. least_by (λ (w : WrongLength). w.place) (option_to_list one ++ option_to_list other))
    (ap (λ (scan : ScanView). scan.wrong) so_far) tells ∙ sym (least_more (λ (w : WrongLength). w.place) wrong_at front frame) in
    λ i. record { rows = same i; wrong = least i }

-- ---- the goals

pub returns-in_ok-add_counted-in-Ok-clause-taken : goal.returns-in_ok-add_counted-in-Ok-clause-taken
returns-in_ok-add_counted-in-Ok-clause-taken c n frames some most so_far =
    let old = c.self.inside.rows in
    let new = c.add_counted.new.self in
    let adds = subst (λ message. AddsCounted c.args.as_of c.args.frame.place message old new) c.in-Ok.ensures.message c.in_ok-add_counted-in-Ok.ensures.added in
    reads c.args.as_of (placed_body c.args.frame) old new c.self.inside.wrong (right_length _ c.in-Ok.ensures.fault.1) adds n frames some most
    (c.self.view_is ∙ so_far)

pub returns-in-Err-clause-taken : goal.returns-in-Err-clause-taken
returns-in-Err-clause-taken c n frames some most so_far =
    passes c.args.as_of (placed_body c.args.frame) c.self.inside.rows c.self.inside.wrong c.earlier-self-inside.result
    (record { place = c.args.frame.place; fault = c.in-Err.fault }) (c.in-Err.ensures.fault.0 refl)
    (ap (λ f. record { place = c.args.frame.place; fault = f }) c.in-Err.ensures.told)
    (c.earlier-self-inside.ensures (λ wrong. wrong.place) (answers_always _ _ _ (λ f a r g called. search rules))) n frames some most (c.self.view_is ∙ so_far)
