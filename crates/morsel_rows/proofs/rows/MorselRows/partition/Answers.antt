use Rattle.std.proofs.Common.{◌≡◌, ◌≤◌, ◌<◌, ◌∙◌, Some, ap, arith, length, slice_get, subst, sym}
use Rattle.morsel_rows.specs.Partitions.{MorselRowsView, no_rows_in}
use Rattle.morsel_rows.specs.TakenPartitions.{rows_of_taken, rows_taken_at}
use Rattle.morsel_rows.proofs.TakenRows.{get_seen, length_seen, none_past, taken_is}
use Rattle.morsel_rows.proofs.rows.MorselRows.partition.Goals as goal

pub returns-then-number-self : goal.returns-then-number-self
returns-then-number-self g c =
    subst (λ (v : MorselRowsView). length v.partitions ≤ c.args.number) c.self.view_is
    (rw (length_seen c.self.inside.parts c.self.inside.partitions.items) (omega (arith, c.if-number-self.true)))

pub returns-then-index-len : goal.returns-then-index-len
returns-then-index-len g c =
    let inside = c.self.inside in
    let taken = inside.partitions.items in
    let below : c.args.number < inside.parts = omega (arith, c.if-number-self.false) in
    let past : length taken ≤ c.args.number = omega (arith, c.if-index-len.true, c.len.ensures, inside.partitions.ok.0) in
    subst (λ (v : MorselRowsView). slice_get v.partitions c.args.number ≡ Some inside.no_rows) c.self.view_is
    (get_seen inside.parts taken c.args.number below ∙ ap Some (none_past taken c.args.number past ∙ sym c.self.invariant.1))

pub returns-in-Some : goal.returns-in-Some
returns-in-Some g c =
    let inside = c.self.inside in
    let taken = inside.partitions.items in
    let below : c.args.number < inside.parts = omega (arith, c.if-number-self.false) in
    let within : c.args.number < length taken = omega (arith, c.if-index-len.false, c.len.ensures, inside.partitions.ok.0) in
    let here : rows_taken_at taken c.args.number ≡ c.in-Some.partition.value =
    taken_is taken c.args.number c.index.result.now within c.index.ensures ∙ ap rows_of_taken c.in-Some.is in
    subst (λ (v : MorselRowsView). slice_get v.partitions c.args.number ≡ Some c.deref.result.now) c.self.view_is
    (get_seen inside.parts taken c.args.number below ∙ ap Some (here ∙ sym c.deref.ensures))

pub returns-in-None : goal.returns-in-None
returns-in-None g c =
    let inside = c.self.inside in
    let taken = inside.partitions.items in
    let below : c.args.number < inside.parts = omega (arith, c.if-number-self.false) in
    let within : c.args.number < length taken = omega (arith, c.if-index-len.false, c.len.ensures, inside.partitions.ok.0) in
    let none : rows_taken_at taken c.args.number ≡ no_rows_in =
    taken_is taken c.args.number c.index.result.now within c.index.ensures ∙ ap rows_of_taken c.in-None.is in
    subst (λ (v : MorselRowsView). slice_get v.partitions c.args.number ≡ Some inside.no_rows) c.self.view_is
    (get_seen inside.parts taken c.args.number below ∙ ap Some (none ∙ sym c.self.invariant.1))
